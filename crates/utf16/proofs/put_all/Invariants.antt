-- `utf16::put_all` meets its contract.
use Prim.Native.Nat.{◌-◌}
use lib.ListN.{length}
use Rattle.utf16.specs.Outcome.{Decodes}
use Rattle.utf16.proofs.put_all.Given as goal

abbrev pub invariant-loop-at : goal.invariant-loop-at
invariant-loop-at l = Decodes l.big l.raw 2 0 l.initial.out l.out l.at l.n

abbrev pub decreases-loop-at : goal.decreases-loop-at
decreases-loop-at l = length l.raw - l.at
