-- What `trees::children::next_child` leaves to show.
use Rattle.trees.proofs.Standing.{looks}
use Rattle.trees.proofs.children.next_child.Goals as goal

pub returns-then-is_past : goal.returns-then-is_past
returns-then-is_past c = search looks

pub loop-k-preserved : goal.loop-k-preserved
loop-k-preserved c = search looks
