-- `order::certificate::check_members` meets its contract.
use Rattle.order.proofs.Checking.{fallen_begins, fallen_more}
use Rattle.order.proofs.certificate.check_members.Goals as goal

pub loop-m-init : goal.loop-m-init
loop-m-init c = fallen_begins

pub loop-m-preserved : goal.loop-m-preserved
loop-m-preserved c = fallen_more c.loop-m.invariant c.loop-m-test.true c.row_falls.ensures c.in_ok-unnamed.was c.add-count.ensures
