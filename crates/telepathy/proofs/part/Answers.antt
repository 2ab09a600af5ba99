-- `telepathy::part` meets its contract.
use Rattle.std.proofs.lemmas.Result.{err_from_is_err_and}
use Rattle.document.proofs.Openings.{opening_fault}
use Rattle.telepathy.proofs.Sorts.{part_done, openings}
use Rattle.telepathy.proofs.part.Goals as goal

pub overflow_add-i : goal.overflow_add-i
overflow_add-i c = search openings

pub part_row-requires : goal.part_row-requires
part_row-requires c = search openings

pub enum_known-g : goal.enum_known-g
enum_known-g c = search openings

pub returns-in_err-g-clause-is : goal.returns-in_err-g-clause-is
returns-in_err-g-clause-is c =
    let p = err_from_is_err_and c.from_residual.result c.from_residual.ensures.1 in
    rw (p.1, p.2) (opening_fault c.part_row.ensures (c.in_err-g.was {u = tt}))

pub returns-clause-is : goal.returns-clause-is
returns-clause-is c = part_done c.requires.of_kind c.part_row.ensures (c.in_ok-g.was {u = tt}) c.contents.ensures.is
