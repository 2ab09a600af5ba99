-- What `soundness::members::is_keyed` leaves to show.
use Rattle.soundness.proofs.Definitions.{keys}
use Rattle.soundness.proofs.members.is_keyed.Goals as goal

pub returns-then-is_none : goal.returns-then-is_none
returns-then-is_none c = search keys
