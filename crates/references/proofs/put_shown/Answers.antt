-- What `references::put_shown` leaves to show. Its loop is in Invariants.antt.
use Rattle.references.proofs.Values.{shown}
use Rattle.references.proofs.put_shown.Goals as goal

pub loop-at-preserved-in-Byte : goal.loop-at-preserved-in-Byte
loop-at-preserved-in-Byte c = search shown

pub returns-in-Err : goal.returns-in-Err
returns-in-Err c = search shown

pub returns : goal.returns
returns c = search shown
