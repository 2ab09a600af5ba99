-- What `attributes::few::attributes` leaves to show. Its loop is in Invariants.antt.
use borrow.Author.Rules.{rules}
use Rattle.attributes.proofs.Slots.{slots_end, slots_more}
use Rattle.attributes.proofs.few.attributes.Goals as goal

pub returns-in_default : goal.returns-in_default
returns-in_default c = slots_end c.loop-s.invariant (c.in_default.ensures {u = tt}).none

pub loop-s-preserved : goal.loop-s-preserved
loop-s-preserved c = search (slots_more c.loop-s.invariant (c.in-Some.ensures {u = tt}).some (c.in-Some-plain_end.ensures {u = tt}), rules)
