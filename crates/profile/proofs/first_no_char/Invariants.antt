-- `profile::first_no_char` meets its contract. The invariant: what is asked is what is left from here.
use Prim.Native.Nat.{◌-◌}
use lib.ListN.{length}
use Rattle.profile.specs.Steps.{no_char}
use Rattle.profile.proofs.Going.{Going}
use Rattle.profile.proofs.first_no_char.Given as goal

abbrev pub invariant-loop-at : goal.invariant-loop-at
invariant-loop-at l = Going no_char l.s l.at

abbrev pub decreases-loop-at : goal.decreases-loop-at
decreases-loop-at l = length l.s - l.at
