-- `shown::direction` meets its contract.
use Rattle.shown.proofs.Tests.{short_direction}
use Rattle.shown.proofs.direction.Goals as goal

pub returns : goal.returns
returns c = c.tested.ensures _ _ (λ x r is. is) short_direction
