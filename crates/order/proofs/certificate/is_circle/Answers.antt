-- What `order::certificate::is_circle` leaves to show. Its loop is in Invariants.antt.
use Rattle.order.proofs.Checking.{leading}
use Rattle.order.proofs.certificate.is_circle.Goals as goal

pub loop-init : goal.loop-init
loop-init c = search leading

pub loop-preserved : goal.loop-preserved
loop-preserved c = search leading
