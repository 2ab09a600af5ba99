-- `order::index::enter` meets its contract.
use Rattle.order.proofs.Indexing.{entering}
use Rattle.order.proofs.index.enter.Goals as goal

pub returns-then-is_definition : goal.returns-then-is_definition
returns-then-is_definition c = search entering

pub returns-else-is_definition : goal.returns-else-is_definition
returns-else-is_definition c = search entering
