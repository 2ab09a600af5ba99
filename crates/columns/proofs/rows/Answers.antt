-- `columns::rows` meets its contract.
use Rattle.columns.proofs.Answers.{rowed}
use Rattle.columns.proofs.rows.Goals as goal

pub returns : goal.returns
returns c = rowed _ _ c.put_down.ensures
