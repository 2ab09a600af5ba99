-- `answers::refuse` meets its contract.
use Rattle.answers.proofs.Answers.{steps}
use Rattle.answers.proofs.refuse.Goals as goal

pub returns : goal.returns
returns c = search steps
