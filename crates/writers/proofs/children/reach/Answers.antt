-- `writers::children::reach` meets its contract.
use Rattle.writers.proofs.Several.{runs}
use Rattle.writers.proofs.children.reach.Goals as goal

pub returns-then-ordered : goal.returns-then-ordered
returns-then-ordered c = search runs
