-- `writers::put_arg_name` meets its contract.
use Rattle.writers.proofs.Texts.{tags}
use Rattle.writers.proofs.put_arg_name.Goals as goal

pub returns-then-is_absent : goal.returns-then-is_absent
returns-then-is_absent c = search tags

pub returns : goal.returns
returns c = search tags
