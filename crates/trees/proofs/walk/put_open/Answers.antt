-- What `trees::walk::put_open` leaves to show.
use Rattle.trees.proofs.Opening.{openings}
use Rattle.trees.proofs.walk.put_open.Goals as goal

pub returns : goal.returns
returns c = search openings
