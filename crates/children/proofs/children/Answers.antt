-- What `children::children` leaves to show.
use Rattle.std.proofs.lemmas.Result.{err_from_is_err_and}
use Rattle.document.proofs.Loops.{loop_begins, loop_fault, loop_close, loop_child, loop_child_fault}
use Rattle.document.proofs.Readers.{keeps_same, keeps_more, child_kept}
use Rattle.children.proofs.children.Goals as goal

pub loop-closing-init : goal.loop-closing-init
loop-closing-init g c = (keeps_same, loop_begins c.requires.bounded c.requires.owner)

pub returns-in_err-closing-clause-is : goal.returns-in_err-closing-clause-is
returns-in_err-closing-clause-is g c =
    let p = err_from_is_err_and c.from_residual.result c.from_residual.ensures.1 in
    rw (p.1, p.2) (loop_fault c.loop-closing.invariant.1 c.step.ensures (c.in_err-closing.was {u = tt}))

pub returns-in-Close-clause-is : goal.returns-in-Close-clause-is
returns-in-Close-clause-is g c = loop_close c.loop-closing.invariant.1 c.step.ensures (rw c.in-Close.is at (c.in_ok-closing.was {u = tt})) c.moved.ensures

pub returns-in_err-g-in-Start-clause-is : goal.returns-in_err-g-in-Start-clause-is
returns-in_err-g-in-Start-clause-is g c =
    let p = err_from_is_err_and c.from_residual-in_err-g-in-Start.result c.from_residual-in_err-g-in-Start.ensures.1 in
    rw (p.1, p.2) (loop_child_fault c.loop-closing.invariant.1 c.step.ensures (rw c.in-Start.is at (c.in_ok-closing.was {u = tt})) (child_kept c.loop-closing.invariant.0 c.child.ensures.is) c.moved-h.ensures (c.in_err-g-in-Start.was {u = tt}))

pub loop-closing-preserved : goal.loop-closing-preserved
loop-closing-preserved g c = (keeps_more c.loop-closing.invariant.0 c.child.ensures.keeps, loop_child c.loop-closing.invariant.1 c.step.ensures (rw c.in-Start.is at (c.in_ok-closing.was {u = tt})) (child_kept c.loop-closing.invariant.0 c.child.ensures.is) c.moved-h.ensures (c.in_ok-g-in-Start.was {u = tt}))
