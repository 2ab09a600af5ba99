-- What `soundness::members::next_member` leaves to show.
use Rattle.soundness.proofs.Definitions.{seeks}
use Rattle.soundness.proofs.members.next_member.Goals as goal

pub returns-then-word-i : goal.returns-then-word-i
returns-then-word-i c = search seeks

pub returns : goal.returns
returns c = search seeks
