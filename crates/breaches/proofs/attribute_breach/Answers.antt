-- `breaches::attribute_breach` meets its contract. Its name, and its value.
use Rattle.breaches.proofs.Collecting.{attributing}
use Rattle.breaches.proofs.attribute_breach.Goals as goal

pub returns : goal.returns
returns c = search attributing
