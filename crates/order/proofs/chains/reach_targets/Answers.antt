-- What `order::chains::reach_targets` leaves to show. Its loop is in Invariants.antt.
use Rattle.order.proofs.Reaching.{reaching}
use Rattle.order.proofs.chains.reach_targets.Goals as goal

pub loop-k-init : goal.loop-k-init
loop-k-init c = search reaching

pub loop-k-preserved : goal.loop-k-preserved
loop-k-preserved c = search reaching

pub returns : goal.returns
returns c = search reaching
