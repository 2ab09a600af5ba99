-- `trees::children::next_child` meets its contract: no row up to here is a child.
use Rattle.trees.proofs.Standing.{Looking}
use Rattle.trees.proofs.children.next_child.Given as goal

abbrev pub invariant-loop-k : goal.invariant-loop-k
invariant-loop-k l = Looking l.table.rows.now l.table.n l.i l.group l.from l.table.standing l.k
