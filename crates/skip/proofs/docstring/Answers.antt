-- What `skip::docstring` leaves to show.
use Rattle.std.proofs.lemmas.Result.{err_from_is_err_and}
use Rattle.skip.proofs.Captured.{documents, captured_fault, captured_formed, captured_closed}
use Rattle.skip.proofs.docstring.Goals as goal

pub returns-then-c : goal.returns-then-c
returns-then-c c = search documents

pub capture-requires-clause-formed : goal.capture-requires-clause-formed
capture-requires-clause-formed c = captured_formed c.requires.ready c.if-c.false c.skip_element.ensures (c.in_ok-closing.was {u = tt})

pub returns-in_err-closing : goal.returns-in_err-closing
returns-in_err-closing c =
    let p = err_from_is_err_and c.from_residual.result c.from_residual.ensures.1 in
    rw (p.1, p.2) (captured_fault c.requires.ready c.if-c.false c.skip_element.ensures (c.in_err-closing.was {u = tt}))

pub returns : goal.returns
returns c = captured_closed c.requires.ready c.if-c.false c.skip_element.ensures (c.in_ok-closing.was {u = tt}) c.requires.owner c.capture.ensures c.moved.ensures
