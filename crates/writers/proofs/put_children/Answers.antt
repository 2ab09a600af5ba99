-- `writers::put_children` meets its contract.
use Rattle.writers.proofs.Members.{inner}
use Rattle.writers.proofs.put_children.Goals as goal

pub returns : goal.returns
returns c = search inner
