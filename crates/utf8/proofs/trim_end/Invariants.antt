-- `utf8::trim_end` meets its contract. The invariant: what is asked is what is left up to here. The measure is the place.
use Rattle.utf8.proofs.Ends.{Ending}
use Rattle.utf8.proofs.trim_end.Given as goal

abbrev pub invariant-loop-end : goal.invariant-loop-end
invariant-loop-end l = Ending l.s l.end

abbrev pub decreases-loop-end : goal.decreases-loop-end
decreases-loop-end l = l.end
