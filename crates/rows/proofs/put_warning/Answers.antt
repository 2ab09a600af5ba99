-- `rows::put_warning` meets its contract.
use Rattle.rows.proofs.Tables.{warning_put}
use Rattle.rows.proofs.put_warning.Goals as goal

pub returns : goal.returns
returns c = warning_put c.put_words.ensures
