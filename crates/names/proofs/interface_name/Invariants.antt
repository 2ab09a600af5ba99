-- `names::interface_name` meets its contract. The invariant: what is left of the name to check is what was asked.
use Prim.Native.Nat.{◌-◌}
use lib.ListN.{length}
use Rattle.names.proofs.Names.{Naming}
use Rattle.names.proofs.interface_name.Given as goal

abbrev pub invariant-loop-at : goal.invariant-loop-at
invariant-loop-at l = Naming l.s l.at l.dotted

abbrev pub decreases-loop-at : goal.decreases-loop-at
decreases-loop-at l = length l.s - l.at
