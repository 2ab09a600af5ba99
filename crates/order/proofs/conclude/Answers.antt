-- `order::conclude` meets its contract.
use Rattle.order.proofs.Answering.{concluding}
use Rattle.order.proofs.conclude.Goals as goal

pub returns-then-count_definitions-count : goal.returns-then-count_definitions-count
returns-then-count_definitions-count c = search concluding

pub first_on_circle-requires : goal.first_on_circle-requires
first_on_circle-requires c = search concluding

pub returns-in-Some : goal.returns-in-Some
returns-in-Some c = search concluding
