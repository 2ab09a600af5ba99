-- What `scan::ignorable` leaves to show. Its loop is in Invariants.antt.
use Rattle.std.proofs.lemmas.Result.{err_from_is_err_and}
use Rattle.scan.proofs.Ignoring.{ignores, ignore_fault, ignore_more}
use Rattle.scan.proofs.ignorable.Goals as goal

pub loop-at-init : goal.loop-at-init
loop-at-init c = search ignores

pub returns-in_err-markup_at : goal.returns-in_err-markup_at
returns-in_err-markup_at c =
    let p = err_from_is_err_and c.from_residual.result c.from_residual.ensures.1 in
    rw (p.1, p.2) (ignore_fault c.loop-at.invariant c.loop-at-test.true c.markup_at.ensures c.in_err-markup_at.was)

pub loop-at-preserved : goal.loop-at-preserved
loop-at-preserved c = ignore_more c.loop-at.invariant c.loop-at-test.true c.markup_at.ensures (rw c.in-Ignored.is at c.in_ok-markup_at.was) c.find-at.ensures
