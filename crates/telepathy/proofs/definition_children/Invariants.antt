-- `telepathy::definition_children` meets its contract: the run has come from the place asked to the present one, with the parts seen. The measure is what is left of the document.
use Prim.Native.Nat.{◌-◌}
use lib.ListN.{length}
use Rattle.document.specs.Outcome.{lent_to, Keeps}
use Rattle.telepathy.proofs.Bodies.{Sofar}
use Rattle.telepathy.proofs.definition_children.Given as goal

abbrev pub invariant-loop-closing : goal.invariant-loop-closing
invariant-loop-closing l =
    Keeps l.initial.r l.r × Sofar l.initial.r.doc.now l.kind l.at l.len l.i l.initial.g (lent_to l.initial.r) l.g l.p (lent_to l.r)

abbrev pub decreases-loop-closing : goal.decreases-loop-closing
decreases-loop-closing l = length l.initial.r.doc.now - l.g.at
