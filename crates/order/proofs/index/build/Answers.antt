-- What `order::index::build` leaves to show. Its loop is in Invariants.antt.
use Rattle.order.proofs.Indexing.{building}
use Rattle.order.proofs.index.build.Goals as goal

pub loop-k-init : goal.loop-k-init
loop-k-init c = search building
