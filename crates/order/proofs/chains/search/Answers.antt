-- What `order::chains::search` leaves to show. Its loop is in Invariants.antt.
use Rattle.order.proofs.Reaching.{searching}
use Rattle.order.proofs.chains.search.Goals as goal

pub loop-k-init : goal.loop-k-init
loop-k-init c = search searching

pub loop-k-smaller : goal.loop-k-smaller
loop-k-smaller c = search searching

pub loop-k-preserved : goal.loop-k-preserved
loop-k-preserved c = search searching
