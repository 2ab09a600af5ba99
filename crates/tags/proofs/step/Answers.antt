-- What `tags::step` leaves to show.
use Rattle.std.proofs.lemmas.Result.{err_from_is_err_and}
use Rattle.tags.proofs.Stepping.{step_fault, step_end, step_start}
use Rattle.tags.proofs.step.Goals as goal

pub returns-in_err-place : goal.returns-in_err-place
returns-in_err-place c =
    let p = err_from_is_err_and c.from_residual.result c.from_residual.ensures.1 in
    rw (p.1, p.2) (step_fault c.args.at c.args.len c.token.ensures (c.in_err-place.was {u = tt}))

pub returns-in-End : goal.returns-in-End
returns-in-End c = step_end c.args.at c.args.len c.token.ensures c.requires.named (rw c.in-End.is at (c.in_ok-place.was {u = tt})) c.new.ensures c.showing.ensures

pub returns-in-Start : goal.returns-in-Start
returns-in-Start c = step_start c.args.at c.args.len c.token.ensures (rw c.in-Start.is at (c.in_ok-place.was {u = tt}))
