-- `messages::shown::put_unescaped` meets its contract.
use Rattle.messages.proofs.Framed.{framing}
use Rattle.messages.proofs.shown.put_unescaped.Goals as goal

pub returns : goal.returns
returns c = search framing
