-- What `soundness::ends::is_formed` leaves to show.
use Rattle.soundness.proofs.Known.{parts}
use Rattle.soundness.proofs.ends.is_formed.Goals as goal

pub returns-then-is_edge : goal.returns-then-is_edge
returns-then-is_edge c = search parts
