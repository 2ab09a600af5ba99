-- `references::unescape` meets its contract.
use Rattle.references.proofs.Answers.{entries}
use Rattle.references.proofs.unescape.Goals as goal

pub returns-in-Err : goal.returns-in-Err
returns-in-Err c = search entries

pub returns-in-Ok : goal.returns-in-Ok
returns-in-Ok c = search entries
