-- What `order::index::first_named` leaves to show. Its loop is in Invariants.antt.
use Rattle.order.proofs.Indexing.{follows}
use Rattle.order.proofs.index.first_named.Goals as goal

pub is_named-requires : goal.is_named-requires
is_named-requires c = record { held = search follows; tagged = search follows; hashed = search follows }

pub returns-then-is_named : goal.returns-then-is_named
returns-then-is_named c = search follows

pub bounds-by_name-k : goal.bounds-by_name-k
bounds-by_name-k c = search follows

pub loop-k-init : goal.loop-k-init
loop-k-init c = search follows

pub loop-k-smaller : goal.loop-k-smaller
loop-k-smaller c = search follows

pub loop-k-preserved : goal.loop-k-preserved
loop-k-preserved c = search follows

pub returns : goal.returns
returns c = search follows
