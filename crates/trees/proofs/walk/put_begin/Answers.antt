-- What `trees::walk::put_begin` leaves to show.
use Rattle.trees.proofs.Opening.{beginning, begins_open}
use Rattle.trees.proofs.walk.put_begin.Goals as goal

pub returns-then-not-is_open : goal.returns-then-not-is_open
returns-then-not-is_open c = search beginning

pub returns : goal.returns
returns c =
    begins_open c.put_start-tagged.ensures c.is_open.ensures c.if-not-is_open.false c.in_ok-opened.ensures
