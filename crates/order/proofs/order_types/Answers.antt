-- `order::order_types` meets its contract.
use Rattle.order.proofs.Answering.{whole}
use Rattle.order.proofs.order_types.Goals as goal

pub returns : goal.returns
returns c = search whole
