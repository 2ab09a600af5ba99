-- What `attributes::few::plain_end` leaves to show. Its loop is in Invariants.antt.
use Rattle.std.proofs.Common.{arith}
use Rattle.attributes.proofs.Starting.{plain_skips, plain_more}
use Rattle.attributes.proofs.few.plain_end.Goals as goal

pub loop-at-preserved : goal.loop-at-preserved
loop-at-preserved c = plain_skips c.loop-at.invariant c.requires.quote c.high-k.ensures

pub loop-at-preserved-then-k-lt8 : goal.loop-at-preserved-then-k-lt8
loop-at-preserved-then-k-lt8 c =
    plain_more c.loop-at.invariant (omega arith) c.high-k.ensures (c.high-k.ensures.room c.if-k-lt8.true) c.if-b-quote.false c.is_special.ensures c.if-is_special.false
