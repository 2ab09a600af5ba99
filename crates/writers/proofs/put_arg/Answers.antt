-- `writers::put_arg` meets its contract.
use Rattle.writers.proofs.Args.{args}
use Rattle.writers.proofs.put_arg.Goals as goal

pub returns-then-has_child : goal.returns-then-has_child
returns-then-has_child c = search args

pub returns : goal.returns
returns c = search args
