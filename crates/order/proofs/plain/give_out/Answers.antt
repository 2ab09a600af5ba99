-- What `order::plain::give_out` leaves to show. Its loop is in Invariants.antt.
use Rattle.order.proofs.Giving.{giving}
use Rattle.order.proofs.plain.give_out.Goals as goal

pub put_row-count-requires-clause-few : goal.put_row-count-requires-clause-few
put_row-count-requires-clause-few c = search giving

pub loop-row-smaller : goal.loop-row-smaller
loop-row-smaller c = search giving

pub returns : goal.returns
returns c = search giving
