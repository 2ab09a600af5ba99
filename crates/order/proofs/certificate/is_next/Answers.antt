-- `order::certificate::is_next` meets its contract.
use Rattle.order.proofs.Checking.{nexts}
use Rattle.order.proofs.certificate.is_next.Goals as goal

pub returns-then-is_noted : goal.returns-then-is_noted
returns-then-is_noted c = search nexts
