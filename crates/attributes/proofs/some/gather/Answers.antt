-- What `attributes::some::gather` leaves to show. Its loop is in Invariants.antt.
use Rattle.attributes.proofs.Gathering.{gathers}
use Rattle.attributes.proofs.some.gather.Goals as goal

pub returns-in-None : goal.returns-in-None
returns-in-None c = search gathers

pub loop-attrs-preserved : goal.loop-attrs-preserved
loop-attrs-preserved c = search gathers
