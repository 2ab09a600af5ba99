-- `profile::after_fault` meets its contract. The invariant: what is asked is what is left from here.
use Prim.Native.Nat.{◌-◌}
use lib.ListN.{length}
use Rattle.profile.proofs.Afters.{Reading}
use Rattle.profile.proofs.after_fault.Given as goal

abbrev pub invariant-loop-at : goal.invariant-loop-at
invariant-loop-at l = Reading l.s l.from l.at

abbrev pub decreases-loop-at : goal.decreases-loop-at
decreases-loop-at l = length l.s - l.at
