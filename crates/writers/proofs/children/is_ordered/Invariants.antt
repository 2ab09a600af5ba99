-- `writers::children::is_ordered` meets its contract: up to here the rows are in order.
use Rattle.writers.proofs.Scans.{Ordering}
use Rattle.writers.proofs.children.is_ordered.Given as goal

abbrev pub invariant-loop-k : goal.invariant-loop-k
invariant-loop-k l = Ordering l.rows l.n l.i l.last l.k
