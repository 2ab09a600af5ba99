-- `messages::message` meets its contract.
use Rattle.messages.proofs.Entries.{entries}
use Rattle.messages.proofs.message.Goals as goal

pub returns-then-number-eq2 : goal.returns-then-number-eq2
returns-then-number-eq2 c = search entries

pub returns-then-document-gt1048576 : goal.returns-then-document-gt1048576
returns-then-document-gt1048576 c = search entries

pub returns : goal.returns
returns c = search entries
