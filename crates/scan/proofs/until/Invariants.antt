-- `scan::until` meets its contract: what is left of the search from here is what was asked.
use Prim.Native.Nat.{◌-◌}
use lib.ListN.{length}
use Rattle.scan.proofs.Seek.{Seeking}
use Rattle.scan.proofs.until.Given as goal

abbrev pub invariant-loop-at : goal.invariant-loop-at
invariant-loop-at l = Seeking l.number l.key l.s l.from l.at

abbrev pub decreases-loop-at : goal.decreases-loop-at
decreases-loop-at l = length l.s - l.at
