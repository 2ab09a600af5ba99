-- What `columns::put_column` leaves to show. Its loop is in Invariants.antt.
use Rattle.std.proofs.Common.{refl, arith}
use Rattle.columns.proofs.Putting.{column-more, column_ends, putting}
use Rattle.columns.proofs.put_column.Goals as goal

pub loop-r-preserved : goal.loop-r-preserved
loop-r-preserved c =
    column-more
    c.loop-r.invariant
    (search putting)
    (search putting)
    (search putting)
    (search putting)
    (λ i. omega (arith, c.type_inv.rows i))
    _
    refl

pub returns : goal.returns
returns c = column_ends c.loop-r.invariant (omega arith)
