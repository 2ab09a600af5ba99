-- `scan::prefixed` meets its contract: what is left of the name from here, after the colons so far, is what was asked.
use Prim.Native.Nat.{◌-◌}
use lib.ListN.{length}
use Rattle.scan.proofs.Prefixes.{Prefixed}
use Rattle.scan.proofs.prefixed.Given as goal

abbrev pub invariant-loop-end : goal.invariant-loop-end
invariant-loop-end l = Prefixed l.s l.first l.last l.end

abbrev pub decreases-loop-end : goal.decreases-loop-end
decreases-loop-end l = length l.s - l.end
