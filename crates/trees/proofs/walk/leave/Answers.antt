-- What `trees::walk::leave` leaves to show.
use Rattle.trees.proofs.Walking.{leaving}
use Rattle.trees.proofs.walk.leave.Goals as goal

pub returns-then-w-lt4 : goal.returns-then-w-lt4
returns-then-w-lt4 c = search leaving
