-- `breaches::lesser` meets its contract. By what the two are.
use Rattle.breaches.proofs.Order.{lessers}
use Rattle.breaches.proofs.lesser.Goals as goal

pub returns-in-Some-Some : goal.returns-in-Some-Some
returns-in-Some-Some c = search lessers

pub returns-in-Some-None : goal.returns-in-Some-None
returns-in-Some-None c = search lessers

pub returns-in-None-default : goal.returns-in-None-default
returns-in-None-default c = search lessers
