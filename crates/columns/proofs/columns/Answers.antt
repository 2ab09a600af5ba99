-- `columns::columns` meets its contract.
use Rattle.columns.proofs.Answers.{columned}
use Rattle.columns.proofs.columns.Goals as goal

pub returns : goal.returns
returns c = columned _ _ c.put_down.ensures
