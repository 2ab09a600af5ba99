-- What `sheets::count_firsts` leaves to show. Its loop is in Invariants.antt.
use borrow.Author.Rules.{rules}
use Rattle.sheets.proofs.Counting.{counting_more, counting_ends}
use Rattle.sheets.proofs.count_firsts.Goals as goal

pub loop-record-preserved : goal.loop-record-preserved
loop-record-preserved c =
    let s = c.in-Some.ensures.steps in
    counting_more c.loop-record.invariant c.in-Some.record.now c.requires.some s.1 s.0.0 s.0.1.0 s.0.1.1 s.0.1.2 (search (c.count.array_long, rules)) c.count.ensures

pub returns : goal.returns
returns c = counting_ends c.loop-record.invariant (λ h. (c.in-None.ensures.steps h).1.0)
