-- `order::refuse` meets its contract.
use Rattle.order.proofs.Answering.{refusals}
use Rattle.order.proofs.refuse.Goals as goal

pub returns : goal.returns
returns c = search refusals
