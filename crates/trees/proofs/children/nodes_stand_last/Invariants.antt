-- `trees::children::nodes_stand_last` meets its contract: up to here no row stands late.
use Rattle.trees.proofs.Standing.{Lasting}
use Rattle.trees.proofs.children.nodes_stand_last.Given as goal

abbrev pub invariant-loop-k : goal.invariant-loop-k
invariant-loop-k l = Lasting l.rows l.node l.k
