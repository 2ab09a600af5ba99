-- What `reader::refuse` leaves to show.
use Rattle.reader.proofs.Entries.{clearing}
use Rattle.reader.proofs.refuse.Goals as goal

pub returns : goal.returns
returns c = search clearing
