-- `writers::put_if_arg` meets its contract.
use Rattle.writers.proofs.Members.{turns}
use Rattle.writers.proofs.put_if_arg.Goals as goal

pub returns-then-is_child : goal.returns-then-is_child
returns-then-is_child c = search turns

pub returns : goal.returns
returns c = search turns
