-- `writers::children::last_child` meets its contract.
use Rattle.writers.proofs.Scans.{scans}
use Rattle.writers.proofs.children.last_child.Goals as goal

pub returns-then-ordered : goal.returns-then-ordered
returns-then-ordered c = search scans
