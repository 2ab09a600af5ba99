-- `references::put_shown` meets its contract: what is shown before here is put.
use Prim.Native.Nat.{◌-◌}
use lib.ListN.{length}
use Rattle.references.proofs.Values.{Showing}
use Rattle.references.proofs.put_shown.Given as goal

abbrev pub invariant-loop-at : goal.invariant-loop-at
invariant-loop-at l = Showing l.value l.n l.initial.out l.out l.at l.m

abbrev pub decreases-loop-at : goal.decreases-loop-at
decreases-loop-at l = length l.value - l.at
