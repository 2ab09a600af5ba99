-- `shown::some_signature` meets its contract.
use Rattle.shown.proofs.Tests.{short_some}
use Rattle.shown.proofs.some_signature.Goals as goal

pub returns : goal.returns
returns c = c.tested.ensures _ _ (λ x r is. is) short_some
