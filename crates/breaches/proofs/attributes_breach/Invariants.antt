-- `breaches::attributes_breach` meets its contract. The invariant: what is left to find is found from here on.
use Prim.Native.Nat.{◌-◌}
use lib.ListN.{length}
use Rattle.breaches.proofs.Collecting.{Collecting}
use Rattle.breaches.proofs.attributes_breach.Given as goal

abbrev pub invariant-loop-found : goal.invariant-loop-found
invariant-loop-found l = Collecting l.doc l.from l.at l.breach

abbrev pub decreases-loop-found : goal.decreases-loop-found
decreases-loop-found l = length l.doc - l.at
