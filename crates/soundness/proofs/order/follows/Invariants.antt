-- `soundness::order::follows` meets its contract: the walk goes up.
use Rattle.soundness.proofs.Definitions.{Walk}
use Rattle.soundness.proofs.order.follows.Given as goal

abbrev pub invariant-loop-up : goal.invariant-loop-up
invariant-loop-up l = Walk l.rows l.k l.parent l.up

abbrev pub decreases-loop-up : goal.decreases-loop-up
decreases-loop-up l = l.up
