-- `telepathy::definition` meets its contract.
use Rattle.std.proofs.lemmas.Result.{err_from_is_err_and}
use Rattle.document.proofs.Openings.{opening_fault}
use Rattle.telepathy.proofs.Judgement.{definition_done, all_definitions}
use Rattle.telepathy.proofs.definition.Goals as goal

pub definition_row-requires : goal.definition_row-requires
definition_row-requires c = search all_definitions

pub enum_known-g : goal.enum_known-g
enum_known-g c = search all_definitions

pub returns-in_err-g-clause-is : goal.returns-in_err-g-clause-is
returns-in_err-g-clause-is c =
    let p = err_from_is_err_and c.from_residual.result c.from_residual.ensures.1 in
    rw (p.1, p.2) (opening_fault c.definition_row.ensures (c.in_err-g.was {u = tt}))

pub returns-clause-is : goal.returns-clause-is
returns-clause-is c = definition_done c.definition_row.ensures (c.in_ok-g.was {u = tt}) c.rest.ensures.is
