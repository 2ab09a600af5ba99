-- `telepathy::content` meets its contract.
use Rattle.telepathy.proofs.Bodies.{contents}
use Rattle.telepathy.proofs.content.Goals as goal

pub returns-clause-is : goal.returns-clause-is
returns-clause-is c = search contents
