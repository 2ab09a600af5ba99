-- `writers::refuse_items` meets its contract.
use Rattle.writers.proofs.Several.{refusing}
use Rattle.writers.proofs.refuse_items.Goals as goal

pub returns : goal.returns
returns c = search refusing
