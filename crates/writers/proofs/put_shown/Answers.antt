-- `writers::put_shown` meets its contract.
use Rattle.writers.proofs.Texts.{texts}
use Rattle.writers.proofs.put_shown.Goals as goal

pub returns : goal.returns
returns c = search texts
