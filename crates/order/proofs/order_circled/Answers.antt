-- `order::order_circled` meets its contract.
use Rattle.order.proofs.Deciding.{decides}
use Rattle.order.proofs.order_circled.Goals as goal

pub returns-in-Some : goal.returns-in-Some
returns-in-Some c = search decides
