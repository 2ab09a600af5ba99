-- `shown::basic_signature` meets its contract.
use Rattle.shown.proofs.Tests.{short_basic}
use Rattle.shown.proofs.basic_signature.Goals as goal

pub returns : goal.returns
returns c = c.tested.ensures _ _ (λ x r is. is) short_basic
