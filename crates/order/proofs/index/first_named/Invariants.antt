-- `order::index::first_named` meets its contract.
use Rattle.order.proofs.Indexing.{Following, ahead}
use Prim.Native.Nat.{◌%◌}
use lib.ListN.{length}
use Rattle.order.specs.Table.{over}
use Rattle.order.proofs.index.first_named.Given as goal

abbrev pub invariant-loop-k : goal.invariant-loop-k
invariant-loop-k l = over Following l.by_name.table.now (length l.by_name.heads.now) l.name l.word

abbrev pub decreases-loop-k : goal.decreases-loop-k
decreases-loop-k l = ahead l.by_name.table.now.n (l.word % 524288)
