-- What `trees::walk::put_from` leaves to show.
use Rattle.trees.proofs.Walking.{top_closed}
use Rattle.trees.proofs.walk.put_from.Goals as goal

pub returns-in-Closed : goal.returns-in-Closed
returns-in-Closed c =
    top_closed c.in_ok-put.ensures c.in-Closed.is
