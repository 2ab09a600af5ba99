-- What `trees::walk::one_turn` leaves to show.
use Rattle.trees.proofs.Walking.{turn_enters}
use Rattle.trees.proofs.walk.one_turn.Goals as goal

pub returns-in_ok-next-in-Ok : goal.returns-in_ok-next-in-Ok
returns-in_ok-next-in-Ok c =
    turn_enters c.requires.walking c.in_ok-next-in-Ok.ensures
