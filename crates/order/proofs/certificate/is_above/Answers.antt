-- `order::certificate::is_above` meets its contract.
use Rattle.order.proofs.Checking.{above_is}
use Rattle.order.proofs.certificate.is_above.Goals as goal

pub returns : goal.returns
returns c = above_is c.requires.runs c.run_before.ensures
