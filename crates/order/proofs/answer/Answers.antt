-- `order::answer` meets its contract.
use Rattle.order.proofs.Answering.{admits, entry}
use Rattle.order.proofs.answer.Goals as goal

pub returns-in-Err : goal.returns-in-Err
returns-in-Err c = search entry

pub invariant_of-table : goal.invariant_of-table
invariant_of-table c = record { held = admits c.admit.ensures c.in-Ok.is }

pub returns-in-Ok : goal.returns-in-Ok
returns-in-Ok c = search entry
