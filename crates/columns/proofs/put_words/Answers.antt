-- What `columns::put_words` leaves to show. Its loop is in Invariants.antt.
use Rattle.std.proofs.Common.{refl, arith}
use Rattle.columns.proofs.Putting.{words_more, words_end, putting}
use Rattle.columns.proofs.put_words.Goals as goal

pub loop-r-preserved : goal.loop-r-preserved
loop-r-preserved c =
    words_more
    c.loop-r.invariant
    (search putting)
    (search putting)
    (search putting)
    (search putting)
    (λ i. omega (arith, c.type_inv.columns i))
    _
    refl

pub returns : goal.returns
returns c = words_end c.loop-r.invariant (omega arith)
