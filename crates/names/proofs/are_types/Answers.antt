-- What `names::are_types` leaves to show. Its loop is in Invariants.antt.
use Rattle.names.proofs.Checks.{signatures}
use Rattle.names.proofs.are_types.Goals as goal

pub loop-at-preserved : goal.loop-at-preserved
loop-at-preserved c = search signatures
