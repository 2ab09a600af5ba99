-- `messages::shown::mismatched` meets its contract.
use borrow.Author.Rules.{rules}
use Rattle.answers.proofs.Answers.{finished}
use Rattle.messages.proofs.Framed.{mismatched_made}
use Rattle.messages.proofs.shown.mismatched.Goals as goal

pub returns : goal.returns
returns c = mismatched_made (finished c.new.ensures c.finish.ensures) c.put_bytes-n.ensures c.put_bytes-second.ensures c.put_framed-first.ensures (search rules)
