-- `skip::capture` meets its contract.
use Rattle.skip.proofs.Captured.{capturing}
use Rattle.skip.proofs.capture.Goals as goal

pub overflow_add-from : goal.overflow_add-from
overflow_add-from c = search capturing

pub overflow_cast-from : goal.overflow_cast-from
overflow_cast-from c = search capturing
