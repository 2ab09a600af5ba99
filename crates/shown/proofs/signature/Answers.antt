-- `shown::signature` meets its contract.
use Rattle.shown.proofs.Tests.{short_signature}
use Rattle.shown.proofs.signature.Goals as goal

pub returns : goal.returns
returns c = c.tested.ensures _ _ (λ x r is. is) short_signature
