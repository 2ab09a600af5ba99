-- `order::certificate::follow` meets its contract.
use Rattle.order.proofs.Checking.{follows}
use Rattle.order.proofs.certificate.follow.Goals as goal

pub returns-then-is_member : goal.returns-then-is_member
returns-then-is_member c = search follows
