-- `shown::access` meets its contract.
use Rattle.shown.proofs.Tests.{short_access}
use Rattle.shown.proofs.access.Goals as goal

pub returns : goal.returns
returns c = c.tested.ensures _ _ (λ x r is. is) short_access
