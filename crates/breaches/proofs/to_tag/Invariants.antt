-- `breaches::to_tag` meets its contract. The invariant: what is left to find is found from here on.
use Prim.Native.Nat.{◌-◌}
use lib.ListN.{length}
use Rattle.breaches.proofs.Passing.{Passing}
use Rattle.breaches.proofs.to_tag.Given as goal

abbrev pub invariant-loop-at : goal.invariant-loop-at
invariant-loop-at l = Passing l.doc l.from l.at l.breach

abbrev pub decreases-loop-at : goal.decreases-loop-at
decreases-loop-at l = length l.doc - l.at
