-- `attributes::few::attributes` meets its contract: the slots hold the values of the attributes gathered.
use Prim.Native.Nat.{◌-◌}
use lib.ListN.{length}
use Rattle.attributes.proofs.Slots.{Slotting}
use Rattle.attributes.proofs.few.attributes.Given as goal

abbrev pub invariant-loop-s : goal.invariant-loop-s
invariant-loop-s l = Slotting l.doc l.from l.slots l.at

abbrev pub decreases-loop-s : goal.decreases-loop-s
decreases-loop-s l = length l.doc - l.at
