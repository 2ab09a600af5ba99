-- `scan::declaration` meets its contract: what is left of the declaration from here is what was asked.
use Prim.Native.Nat.{◌-◌}
use lib.ListN.{length}
use Rattle.scan.proofs.Declarations.{Declaring}
use Rattle.scan.proofs.declaration.Given as goal

abbrev pub invariant-loop-at : goal.invariant-loop-at
invariant-loop-at l = Declaring l.s l.from l.at l.depth

abbrev pub decreases-loop-at : goal.decreases-loop-at
decreases-loop-at l = length l.s - l.at
