-- What `skip::skip_unsupported` leaves to show.
use Rattle.std.proofs.lemmas.Result.{err_from_is_err_and}
use Rattle.skip.proofs.Skipped.{skips, skipped_fault, skipped_closed}
use Rattle.skip.proofs.skip_unsupported.Goals as goal

pub returns-then-c : goal.returns-then-c
returns-then-c c = search skips

pub returns-in_err-closing : goal.returns-in_err-closing
returns-in_err-closing c =
    let p = err_from_is_err_and c.from_residual.result c.from_residual.ensures.1 in
    rw (p.1, p.2) (skipped_fault c.requires.ready c.put_warning-g.ensures c.if-c.false c.skip_element.ensures (c.in_err-closing.was {u = tt}))

pub returns : goal.returns
returns c = skipped_closed c.requires.ready c.put_warning-g.ensures c.if-c.false c.skip_element.ensures (c.in_ok-closing.was {u = tt}) c.moved.ensures
