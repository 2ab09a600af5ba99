-- What `attributes::gathered::check` leaves to show. Its loop is in Invariants.antt.
use Rattle.std.proofs.lemmas.Result.{err_from_is_err_and}
use Rattle.attributes.proofs.Checking.{check_fault, check_more}
use Rattle.attributes.proofs.gathered.check.Goals as goal

pub returns-in_err-judge : goal.returns-in_err-judge
returns-in_err-judge c =
    let p = err_from_is_err_and c.from_residual.result c.from_residual.ensures.1 in
    rw (p.1, p.2) (check_fault c.loop-i.invariant c.loop-i-test.true c.in_err-judge.ensures)

pub loop-i-preserved : goal.loop-i-preserved
loop-i-preserved c = check_more c.loop-i.invariant c.loop-i-test.true c.in_ok-judge.ensures
