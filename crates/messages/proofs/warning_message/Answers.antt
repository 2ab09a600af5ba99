-- `messages::warning_message` meets its contract.
use Rattle.answers.proofs.Answers.{makes}
use Rattle.messages.proofs.Entries.{entries, warning_told}
use Rattle.messages.proofs.warning_message.Goals as goal

pub returns-then-document-gt1048576 : goal.returns-then-document-gt1048576
returns-then-document-gt1048576 c = search entries

pub returns : goal.returns
returns c = makes _ (warning_told _ _ _ _ _ c.from-name.ensures c.if-document-gt1048576.false c.warned.ensures)
