-- What `members::arg` leaves to show.
use mathlib.Core.Path.{refl}
use Rattle.std.proofs.lemmas.Result.{err_from_is_err_and}
use Rattle.document.proofs.Openings.{opening_fault, opening_contents}
use Rattle.members.proofs.arg.Goals as goal

pub returns-in_err-g-clause-is : goal.returns-in_err-g-clause-is
returns-in_err-g-clause-is c =
    let p = err_from_is_err_and c.from_residual.result c.from_residual.ensures.1 in
    rw (p.1, p.2) (opening_fault c.arg_row.ensures (c.in_err-g.was {u = tt}))

pub returns-clause-is : goal.returns-clause-is
returns-clause-is c = opening_contents c.arg_row.ensures (c.in_ok-g.was {u = tt}) refl refl c.contents.ensures.is
