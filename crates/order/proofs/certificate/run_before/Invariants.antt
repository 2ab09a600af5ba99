-- `order::certificate::run_before` meets its contract.
use Rattle.order.proofs.Checking.{Rising}
use Rattle.order.proofs.certificate.run_before.Given as goal

abbrev pub invariant-loop-j : goal.invariant-loop-j
invariant-loop-j l = Rising l.n l.work l.out l.k l.r l.j

abbrev pub decreases-loop-j : goal.decreases-loop-j
decreases-loop-j l = l.j
