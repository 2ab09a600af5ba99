-- What `members::callable` leaves to show.
use Rattle.std.proofs.lemmas.Result.{err_from_is_err_and}
use Rattle.document.proofs.Openings.{opening_fault}
use Rattle.members.proofs.Members.{callable_contents}
use Rattle.members.proofs.callable.Goals as goal

pub returns-in_err-g-clause-is : goal.returns-in_err-g-clause-is
returns-in_err-g-clause-is c =
    let p = err_from_is_err_and c.from_residual.result c.from_residual.ensures.1 in
    rw (p.1, p.2) (opening_fault c.callable_row.ensures (c.in_err-g.was {u = tt}))

pub returns-clause-is : goal.returns-clause-is
returns-clause-is c = callable_contents c.requires.of_kind c.callable_row.ensures (c.in_ok-g.was {u = tt}) c.contents.ensures.is
