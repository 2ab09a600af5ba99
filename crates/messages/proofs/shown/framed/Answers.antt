-- `messages::shown::framed` meets its contract.
use Rattle.messages.proofs.Framed.{framing}
use Rattle.messages.proofs.shown.framed.Goals as goal

pub returns : goal.returns
returns c = search framing
