-- `order::index::build` meets its contract.
use Rattle.order.proofs.Indexing.{Building}
use Rattle.order.specs.Table.{over}
use Rattle.order.proofs.index.build.Given as goal

abbrev pub invariant-loop-k : goal.invariant-loop-k
invariant-loop-k l = over Building l.table l.k l.initial.heads l.initial.work l.heads l.work
