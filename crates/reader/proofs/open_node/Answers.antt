-- What `reader::open_node` leaves to show.
use Rattle.std.proofs.lemmas.Result.{err_from_is_err_and}
use Rattle.reader.proofs.Opened.{open_fault, open_closes, open_deep, open_more}
use Rattle.reader.proofs.open_node.Goals as goal

pub returns-in_err-g : goal.returns-in_err-g
returns-in_err-g c =
    let p = err_from_is_err_and c.from_residual.result c.from_residual.ensures.1 in
    rw (p.1, p.2) (open_fault c.requires.started c.args.i (rw c.moved-h.ensures at c.untyped_row.ensures) (c.in_err-g.was {u = tt}))

pub returns-then-closes : goal.returns-then-closes
returns-then-closes c = open_closes c.requires.started c.args.i (rw c.moved-h.ensures at c.untyped_row.ensures) (c.in_ok-g.was {u = tt}) c.if-closes.true

pub returns-then-depth-eq1024 : goal.returns-then-depth-eq1024
returns-then-depth-eq1024 c = open_deep c.requires.started c.args.i (rw c.moved-h.ensures at c.untyped_row.ensures) (c.in_ok-g.was {u = tt}) c.if-closes.false c.if-depth-eq1024.true c.bare.ensures

pub returns : goal.returns
returns c = open_more c.requires.started c.args.i (rw c.moved-h.ensures at c.untyped_row.ensures) (c.in_ok-g.was {u = tt}) c.if-closes.false c.if-depth-eq1024.false c.requires.node c.keep_level.ensures
