-- `breaches::to_root_end` meets its contract. The invariant: what is left to find is found from here on.
use Prim.Native.Nat.{◌-◌}
use lib.ListN.{length}
use Rattle.breaches.specs.Outcome.{Walking}
use Rattle.breaches.proofs.to_root_end.Given as goal

abbrev pub invariant-loop-w : goal.invariant-loop-w
invariant-loop-w l = Walking l.doc l.w

abbrev pub decreases-loop-w : goal.decreases-loop-w
decreases-loop-w l = length l.doc - l.w.at
