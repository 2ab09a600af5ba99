-- `shown::property_name` meets its contract.
use Rattle.shown.proofs.Tests.{short_property}
use Rattle.shown.proofs.property_name.Goals as goal

pub returns : goal.returns
returns c = c.tested.ensures _ _ (λ x r is. is) short_property
