-- `references::check` meets its contract: the faults that are left from here are the value's.
use Prim.Native.Nat.{◌-◌}
use lib.ListN.{length}
use Rattle.references.proofs.Values.{Checking}
use Rattle.references.proofs.check.Given as goal

abbrev pub invariant-loop-at : goal.invariant-loop-at
invariant-loop-at l = Checking l.value l.at

abbrev pub decreases-loop-at : goal.decreases-loop-at
decreases-loop-at l = length l.value - l.at
