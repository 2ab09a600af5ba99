-- What `reader::next_in` leaves to show.
use Rattle.reader.proofs.Turning.{nexts}
use Rattle.reader.proofs.next_in.Goals as goal

pub returns-then-s-eq1 : goal.returns-then-s-eq1
returns-then-s-eq1 c = search nexts

pub returns : goal.returns
returns c = search nexts
