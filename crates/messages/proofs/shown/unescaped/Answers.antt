-- `messages::shown::unescaped` meets its contract.
use Rattle.messages.proofs.Framed.{framing}
use Rattle.messages.proofs.shown.unescaped.Goals as goal

pub returns-in-Err : goal.returns-in-Err
returns-in-Err c = search framing

pub returns-in-Ok : goal.returns-in-Ok
returns-in-Ok c = search framing
