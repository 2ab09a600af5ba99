-- What `reader::finish` leaves to show.
use Rattle.reader.proofs.Entries.{finishing}
use Rattle.reader.proofs.finish.Goals as goal

pub returns-then-has_room : goal.returns-then-has_room
returns-then-has_room c = search finishing

pub returns-in-Err : goal.returns-in-Err
returns-in-Err c = search finishing

pub returns-else-has_room : goal.returns-else-has_room
returns-else-has_room c = search finishing
