-- `writers::put_annotation` meets its contract.
use Rattle.writers.proofs.Texts.{texts}
use Rattle.writers.proofs.put_annotation.Goals as goal

pub returns : goal.returns
returns c = search texts
