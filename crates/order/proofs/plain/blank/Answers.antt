-- `order::plain::blank` meets its contract.
use Rattle.order.proofs.Giving.{blank_none}
use Rattle.order.proofs.plain.blank.Goals as goal

pub returns : goal.returns
returns c = blank_none
