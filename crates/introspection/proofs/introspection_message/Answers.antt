-- What `introspection::introspection_message` leaves to show.
use Rattle.introspection.proofs.Answers.{entries}
use Rattle.introspection.proofs.introspection_message.Goals as goal

pub returns : goal.returns
returns c = search entries
