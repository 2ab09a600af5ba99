-- `messages::shown::valued` meets its contract.
use Rattle.answers.proofs.Answers.{told}
use Rattle.messages.proofs.Framed.{framing, valued_bad}
use Rattle.messages.proofs.shown.valued.Goals as goal

pub returns-in-Some : goal.returns-in-Some
returns-in-Some c = search framing

pub returns-in-None : goal.returns-in-None
returns-in-None c = valued_bad _ _ _ _ c.in-None.ensures.none (told c.new.ensures c.refuse.ensures)
