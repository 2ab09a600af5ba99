-- What `skip::skip_element` leaves to show. Its loop and its measure are in Invariants.antt.
use Rattle.std.proofs.lemmas.Result.{err_from_is_err_and}
use Rattle.skip.proofs.Passing.{pass_close, pass_self, pass_deep, pass_inner, pass_inner_fault}
use Rattle.skip.proofs.+skip_element.Goals as goal

pub returns-in-Close : goal.returns-in-Close
returns-in-Close t c = pass_close c.loop-closing.invariant c.step.ensures (rw c.in-Close.is at (c.in_ok-closing.was {u = tt}))

pub loop-closing-preserved-then-t : goal.loop-closing-preserved-then-t
loop-closing-preserved-then-t t c = pass_self c.loop-closing.invariant c.step.ensures (rw c.in-Start.is at (c.in_ok-closing.was {u = tt})) c.if-t.true

pub returns-then-depth-eq1024 : goal.returns-then-depth-eq1024
returns-then-depth-eq1024 t c = pass_deep c.loop-closing.invariant c.step.ensures (rw c.in-Start.is at (c.in_ok-closing.was {u = tt})) c.if-t.false c.if-depth-eq1024.true c.bare.ensures

pub returns-in_err-inner-in-Start : goal.returns-in_err-inner-in-Start
returns-in_err-inner-in-Start t c =
    let p = err_from_is_err_and c.from_residual-in_err-inner-in-Start.result c.from_residual-in_err-inner-in-Start.ensures.1 in
    rw (p.1, p.2) (pass_inner_fault c.loop-closing.invariant c.step.ensures (rw c.in-Start.is at (c.in_ok-closing.was {u = tt})) c.if-t.false c.if-depth-eq1024.false c.requires.deep c.skip_element.ensures (c.in_err-inner-in-Start.was {u = tt}))

pub loop-closing-preserved : goal.loop-closing-preserved
loop-closing-preserved t c = pass_inner c.loop-closing.invariant c.step.ensures (rw c.in-Start.is at (c.in_ok-closing.was {u = tt})) c.if-t.false c.if-depth-eq1024.false c.requires.deep c.skip_element.ensures (c.in_ok-inner-in-Start.was {u = tt})
