-- `order::definitions::has_name` meets its contract.
use Rattle.order.proofs.Finding.{names}
use Rattle.order.proofs.definitions.has_name.Goals as goal

pub returns-then-is_definition : goal.returns-then-is_definition
returns-then-is_definition c = search names
