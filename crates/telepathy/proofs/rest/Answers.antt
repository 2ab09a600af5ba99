-- `telepathy::rest` meets its contract.
use Rattle.std.proofs.lemmas.Result.{err_from_is_err_and}
use Rattle.telepathy.proofs.Judgement.{rest_fault, rest_done, rests}
use Rattle.telepathy.proofs.rest.Goals as goal

pub judge-requires : goal.judge-requires
judge-requires c = record {
  judging = search rests;
  of_kind = search rests;
}

pub returns-in_err-inner-clause-is : goal.returns-in_err-inner-clause-is
returns-in_err-inner-clause-is c =
    let p = err_from_is_err_and c.from_residual.result c.from_residual.ensures.1 in
    rw (p.1, p.2) (rest_fault c.content.ensures.is (c.in_err-inner.was {u = tt}))

pub returns-clause-is : goal.returns-clause-is
returns-clause-is c = rest_done c.content.ensures.is (c.in_ok-inner.was {u = tt}) c.judge.ensures
