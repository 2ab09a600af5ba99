-- `order::finish_certain` meets its contract.
use Rattle.order.proofs.Deciding.{certain_leaves}
use Rattle.order.proofs.finish_certain.Goals as goal

pub returns-in-Some : goal.returns-in-Some
returns-in-Some c = certain_leaves c.requires.counted c.requires.certain c.in-Some.is c.leave.ensures
