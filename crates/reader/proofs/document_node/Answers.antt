-- What `reader::document_node` leaves to show.
use Rattle.std.proofs.lemmas.Result.{err_from_is_err_and}
use Rattle.reader.proofs.Rooted.{first_fault, first_end, first_close}
use Rattle.reader.proofs.document_node.Goals as goal

pub returns-in_err-place-clause-is : goal.returns-in_err-place-clause-is
returns-in_err-place-clause-is c =
    let p = err_from_is_err_and c.from_residual.result c.from_residual.ensures.1 in
    rw (p.1, p.2) (first_fault c.token.ensures (c.in_err-place.was {u = tt}))

pub returns-in-End-clause-is : goal.returns-in-End-clause-is
returns-in-End-clause-is c = first_end c.token.ensures (rw c.in-End.is at (c.in_ok-place.was {u = tt})) c.bare.ensures

pub returns-in-Close-clause-is : goal.returns-in-Close-clause-is
returns-in-Close-clause-is c = first_close c.token.ensures (rw c.in-Close.is at (c.in_ok-place.was {u = tt})) c.bare-in-Close.ensures
