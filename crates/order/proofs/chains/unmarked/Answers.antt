-- `order::chains::unmarked` meets its contract.
use Rattle.order.proofs.Reaching.{unmarked_all}
use Rattle.order.proofs.chains.unmarked.Goals as goal

pub returns : goal.returns
returns c = unmarked_all
