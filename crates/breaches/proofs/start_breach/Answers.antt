-- `breaches::start_breach` meets its contract. The name, the attributes, the end.
use Rattle.breaches.proofs.Tagged.{startings}
use Rattle.breaches.proofs.start_breach.Goals as goal

pub name_breach-own-requires : goal.name_breach-own-requires
name_breach-own-requires c = search startings

pub returns-in-Err : goal.returns-in-Err
returns-in-Err c = search startings

pub returns-in-Ok : goal.returns-in-Ok
returns-in-Ok c = search startings
