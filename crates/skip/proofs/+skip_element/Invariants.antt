-- `skip::skip_element` meets its contract: the run has come from the place asked to the present one. The measure is what is left of the document.
use Rattle.std.proofs.Common.{◌-◌, length}
use Rattle.skip.proofs.Passing.{Sofar}
use Rattle.skip.proofs.+skip_element.Given as goal

abbrev pub invariant-loop-closing : goal.invariant-loop-closing
invariant-loop-closing l = Sofar l.doc l.from l.at l.len l.depth l.here

abbrev pub decreases-loop-closing : goal.decreases-loop-closing
decreases-loop-closing l = length l.doc - l.here

abbrev pub decreases-skip_element : goal.decreases-skip_element
decreases-skip_element l = length l.doc.now - l.from
