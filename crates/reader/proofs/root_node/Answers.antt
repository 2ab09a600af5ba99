-- What `reader::root_node` leaves to show.
use Rattle.std.proofs.lemmas.Result.{err_from_is_err_and}
use Rattle.reader.proofs.Rooted.{root_fault, root_open}
use Rattle.reader.proofs.root_node.Goals as goal

pub returns-in_err-g-clause-is : goal.returns-in_err-g-clause-is
returns-in_err-g-clause-is c =
    let p = err_from_is_err_and c.from_residual.result c.from_residual.ensures.1 in
    rw (p.1, p.2) (root_fault c.untyped_row.ensures (c.in_err-g.was {u = tt}))

pub open_root-requires : goal.open_root-requires
open_root-requires c = record { opened = root_open c.untyped_row.ensures (c.in_ok-g.was {u = tt}) c.requires.fits c.if-c.false }
