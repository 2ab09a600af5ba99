-- `order::chains::is_left_on_circle` meets its contract.
use Rattle.order.proofs.Reaching.{lefts}
use Rattle.order.proofs.chains.is_left_on_circle.Goals as goal
use Rattle.order.proofs.chains.is_left_on_circle.Goals.{then-is_definition, else-is_definition}

pub returns-else-not-given-p : goal.returns-else-not-given-p
returns-else-not-given-p c = elim c.if-is_definition.branch [ then-is_definition w ↦ search lefts | else-is_definition w ↦ search lefts ]
