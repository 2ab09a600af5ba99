-- `children::children` meets its contract: the run has come from the start to the present place. The measure is what is left of the document.
use Prim.Native.Nat.{◌-◌}
use lib.ListN.{length}
use Rattle.document.specs.Outcome.{lent_to, Keeps}
use Rattle.document.proofs.Loops.{Sofar}
use Rattle.children.proofs.children.Given as goal

abbrev pub invariant-loop-closing : goal.invariant-loop-closing
invariant-loop-closing g l = Keeps l.initial.r l.r × Sofar l.initial.r.doc.now g.E.Element.held g.E.Element.docs l.at l.len l.i l.initial.g (lent_to l.initial.r) l.g (lent_to l.r)

abbrev pub decreases-loop-closing : goal.decreases-loop-closing
decreases-loop-closing g l = length l.initial.r.doc.now - l.g.at
