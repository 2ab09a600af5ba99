-- `shown::interface_name` meets its contract.
use Rattle.shown.proofs.Tests.{short_interface}
use Rattle.shown.proofs.interface_name.Goals as goal

pub returns : goal.returns
returns c = c.tested.ensures _ _ (λ x r is. is) short_interface
