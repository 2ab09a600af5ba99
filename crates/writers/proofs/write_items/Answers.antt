-- `writers::write_items` meets its contract.
use Rattle.writers.proofs.Several.{several}
use Rattle.writers.proofs.write_items.Goals as goal

pub returns-in-Err : goal.returns-in-Err
returns-in-Err c = search several

pub returns-in-Ok : goal.returns-in-Ok
returns-in-Ok c = search several
