-- What `breaches::attributes_breach` leaves to show. Its loop is in Invariants.antt.
use Rattle.breaches.proofs.Collecting.{collecting}
use Rattle.breaches.proofs.attributes_breach.Goals as goal

pub loop-found-init : goal.loop-found-init
loop-found-init c = search collecting

pub returns-in-None : goal.returns-in-None
returns-in-None c = search collecting

pub attribute_breach-requires : goal.attribute_breach-requires
attribute_breach-requires c = search collecting

pub loop-found-preserved : goal.loop-found-preserved
loop-found-preserved c = search collecting
