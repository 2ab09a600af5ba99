-- `trees::walk::walk_on` meets its contract: the walk goes on, with fewer turns left each time.
use Rattle.trees.proofs.Walking.{Looping}
use Rattle.trees.proofs.walk.walk_on.Given as goal

abbrev pub invariant-loop-w : goal.invariant-loop-w
invariant-loop-w l = Looping l.table.document.now l.table.text.now l.table.rows.now l.table.n l.top l.table.standing l.initial.out l.w l.out

abbrev pub decreases-loop-w : goal.decreases-loop-w
decreases-loop-w l = l.w.left
