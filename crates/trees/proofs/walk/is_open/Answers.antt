-- What `trees::walk::is_open` leaves to show.
use Rattle.trees.proofs.Opening.{opening}
use Rattle.trees.proofs.walk.is_open.Goals as goal

pub returns-then-word-ne0 : goal.returns-then-word-ne0
returns-then-word-ne0 c = search opening
