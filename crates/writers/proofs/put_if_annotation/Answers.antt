-- `writers::put_if_annotation` meets its contract.
use Rattle.writers.proofs.Texts.{texts}
use Rattle.writers.proofs.put_if_annotation.Goals as goal

pub returns-then-is_child : goal.returns-then-is_child
returns-then-is_child c = search texts

pub returns : goal.returns
returns c = search texts
