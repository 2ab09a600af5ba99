-- `names::are_types` meets its contract. The invariant: with nothing open, what follows the place decides.
use Prim.Native.Nat.{◌-◌}
use lib.ListN.{length}
use Rattle.names.proofs.Checks.{Signing}
use Rattle.names.proofs.are_types.Given as goal

abbrev pub invariant-loop-at : goal.invariant-loop-at
invariant-loop-at l = Signing l.s l.at

abbrev pub decreases-loop-at : goal.decreases-loop-at
decreases-loop-at l = length l.s - l.at
