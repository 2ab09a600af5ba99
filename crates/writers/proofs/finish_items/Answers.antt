-- `writers::finish_items` meets its contract.
use Rattle.writers.proofs.Several.{finishing}
use Rattle.writers.proofs.finish_items.Goals as goal

pub returns : goal.returns
returns c = search finishing
