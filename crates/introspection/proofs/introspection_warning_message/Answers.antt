-- What `introspection::introspection_warning_message` leaves to show.
use Rattle.introspection.proofs.Answers.{entries}
use Rattle.introspection.proofs.introspection_warning_message.Goals as goal

pub returns : goal.returns
returns c = search entries
