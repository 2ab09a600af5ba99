-- `tags::fault_in` meets its contract.
use Rattle.tags.proofs.Faults.{faults}
use Rattle.tags.proofs.fault_in.Goals as goal

pub returns-in-8 : goal.returns-in-8
returns-in-8 c = search faults
