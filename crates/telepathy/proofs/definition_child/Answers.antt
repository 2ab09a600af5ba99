-- `telepathy::definition_child` meets its contract.
use Rattle.std.proofs.lemmas.Result.{err_from_is_err_and}
use Rattle.telepathy.proofs.Bodies.{child_other_fault, child_other_done, children}
use Rattle.telepathy.proofs.definition_child.Goals as goal

pub holds-requires : goal.holds-requires
holds-requires c = search children

pub returns-then-holds-clause-is : goal.returns-then-holds-clause-is
returns-then-holds-clause-is c = search children

pub docstring_or_skip-requires : goal.docstring_or_skip-requires
docstring_or_skip-requires c = search children

pub returns-in_err-fill-clause-is : goal.returns-in_err-fill-clause-is
returns-in_err-fill-clause-is c =
    let p = err_from_is_err_and c.from_residual.result c.from_residual.ensures.1 in
    rw (p.1, p.2) (child_other_fault c.requires.of_kind c.holds.ensures c.if-holds.false c.docstring_or_skip.ensures (c.in_err-fill.was {u = tt}))

pub returns-clause-is : goal.returns-clause-is
returns-clause-is c = child_other_done c.requires.of_kind c.holds.ensures c.if-holds.false c.docstring_or_skip.ensures c.requires.few (c.in_ok-fill.was {u = tt})
