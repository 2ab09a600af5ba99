-- What `telepathy::definition_children` leaves to show. Its loop is in Invariants.antt.
use Rattle.std.proofs.lemmas.Result.{err_from_is_err_and}
use Rattle.document.proofs.Loops.{moved_owner}
use Rattle.document.proofs.Readers.{keeps_same, keeps_more, ready_kept}
use Rattle.telepathy.proofs.Bodies.{body_begins, body_fault, body_close, body_ready, body_count, body_child_fault, body_child, body_less, child_kept}
use Rattle.telepathy.proofs.definition_children.Goals as goal

pub loop-closing-init : goal.loop-closing-init
loop-closing-init c = (keeps_same, body_begins c.requires.bounded c.requires.owner c.no_parts-p.ensures)

pub returns-in_err-closing-clause-is : goal.returns-in_err-closing-clause-is
returns-in_err-closing-clause-is c =
    let p = err_from_is_err_and c.from_residual.result c.from_residual.ensures.1 in
    rw (p.1, p.2) (body_fault c.loop-closing.invariant.1 c.step.ensures (c.in_err-closing.was {u = tt}))

pub returns-in-Close-clause-is : goal.returns-in-Close-clause-is
returns-in-Close-clause-is c = rw c.moved.ensures (body_close c.loop-closing.invariant.1 c.step.ensures (rw c.in-Close.is at (c.in_ok-closing.was {u = tt})))

pub definition_child-requires-clause-ready : goal.definition_child-requires-clause-ready
definition_child-requires-clause-ready c = ready_kept c.loop-closing.invariant.0 (rw c.moved-h.ensures (body_ready c.loop-closing.invariant.1 c.step.ensures (rw c.in-Start.is at (c.in_ok-closing.was {u = tt}))))

pub definition_child-requires-clause-owner : goal.definition_child-requires-clause-owner
definition_child-requires-clause-owner c = moved_owner c.loop-closing.invariant.1.owner c.moved-h.ensures

pub definition_child-requires-clause-few : goal.definition_child-requires-clause-few
definition_child-requires-clause-few c = rw c.moved-h.ensures (body_count c.loop-closing.invariant.1 c.step.ensures (rw c.in-Start.is at (c.in_ok-closing.was {u = tt})))

pub returns-in_err-read-in-Start-clause-is : goal.returns-in_err-read-in-Start-clause-is
returns-in_err-read-in-Start-clause-is c =
    let p = err_from_is_err_and c.from_residual-in_err-read-in-Start.result c.from_residual-in_err-read-in-Start.ensures.1 in
    rw (p.1, p.2) (body_child_fault c.loop-closing.invariant.1 c.step.ensures (rw c.in-Start.is at (c.in_ok-closing.was {u = tt})) (child_kept c.loop-closing.invariant.0 (rw c.moved-h.ensures at c.definition_child.ensures.is)) (c.in_err-read-in-Start.was {u = tt}))

pub loop-closing-smaller : goal.loop-closing-smaller
loop-closing-smaller c = body_less c.loop-closing.invariant.1 c.step.ensures (rw c.in-Start.is at (c.in_ok-closing.was {u = tt})) (child_kept c.loop-closing.invariant.0 (rw c.moved-h.ensures at c.definition_child.ensures.is)) (c.in_ok-read-in-Start.was {u = tt})

pub loop-closing-preserved : goal.loop-closing-preserved
loop-closing-preserved c = (keeps_more c.loop-closing.invariant.0 c.definition_child.ensures.keeps, body_child c.loop-closing.invariant.1 c.step.ensures (rw c.in-Start.is at (c.in_ok-closing.was {u = tt})) (child_kept c.loop-closing.invariant.0 (rw c.moved-h.ensures at c.definition_child.ensures.is)) (c.in_ok-read-in-Start.was {u = tt}))
