-- `messages::shown::named` meets its contract.
use Rattle.answers.proofs.Answers.{told}
use Rattle.messages.proofs.Framed.{framing, named_bad}
use Rattle.messages.proofs.shown.named.Goals as goal

pub returns-in-Some : goal.returns-in-Some
returns-in-Some c = search framing

pub returns-in-None : goal.returns-in-None
returns-in-None c = named_bad _ _ _ _ c.in-None.ensures.none (told c.new.ensures c.refuse.ensures)
