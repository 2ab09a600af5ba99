-- `order::chains::search` meets its contract.
use Rattle.order.specs.Steps.{todo, Searching}
use Rattle.order.specs.Table.{over}
use Rattle.order.proofs.chains.search.Given as goal

abbrev pub invariant-loop-k : goal.invariant-loop-k
invariant-loop-k l = over Searching l.table l.p l.marks

abbrev pub decreases-loop-k : goal.decreases-loop-k
decreases-loop-k l = todo l.marks
