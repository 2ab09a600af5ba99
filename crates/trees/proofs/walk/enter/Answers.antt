-- What `trees::walk::enter` leaves to show.
use Rattle.std.proofs.lemmas.Result.{err_from_is_err_and}
use Rattle.trees.proofs.Walking.{enter_deep}
use Rattle.trees.proofs.walk.enter.Goals as goal

pub returns-in_err-put : goal.returns-in_err-put
returns-in_err-put c =
    let p = err_from_is_err_and c.from_residual.result c.from_residual.ensures.1 in
    rw (p.1, p.2) (enter_deep c.requires.child c.in_err-put.ensures)
