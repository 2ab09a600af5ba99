-- `order::certificate::is_placed` meets its contract.
use Rattle.order.proofs.Checking.{placing}
use Rattle.order.proofs.certificate.is_placed.Goals as goal

pub returns-then-not-is_definition : goal.returns-then-not-is_definition
returns-then-not-is_definition c = search placing
