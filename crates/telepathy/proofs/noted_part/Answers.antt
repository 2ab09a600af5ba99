-- `telepathy::noted_part` meets its contract.
use Rattle.std.proofs.lemmas.Result.{err_from_is_err_and}
use Rattle.telepathy.proofs.Bodies.{noted_fault, noted_done}
use Rattle.telepathy.proofs.noted_part.Goals as goal

pub returns-in_err-fill-clause-is : goal.returns-in_err-fill-clause-is
returns-in_err-fill-clause-is c =
    let p = err_from_is_err_and c.from_residual.result c.from_residual.ensures.1 in
    rw (p.1, p.2) (noted_fault c.part.ensures.is (c.in_err-fill.was {u = tt}))

pub returns-clause-is : goal.returns-clause-is
returns-clause-is c = noted_done c.part.ensures.is c.requires.few c.one_more-q.ensures (c.in_ok-fill.was {u = tt})
