-- What `breaches::to_root_end` leaves to show. Its loop is in Invariants.antt.
use Rattle.breaches.proofs.Walking.{loops}
use Rattle.breaches.proofs.to_root_end.Goals as goal

pub loop-w-init : goal.loop-w-init
loop-w-init c = search loops

pub returns-then-w-eq0 : goal.returns-then-w-eq0
returns-then-w-eq0 c = search loops

pub loop-w-preserved : goal.loop-w-preserved
loop-w-preserved c = search loops
