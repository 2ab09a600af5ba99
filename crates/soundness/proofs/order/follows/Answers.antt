-- What `soundness::order::follows` leaves to show.
use Rattle.soundness.proofs.Definitions.{walks}
use Rattle.soundness.proofs.order.follows.Goals as goal

pub loop-up-smaller : goal.loop-up-smaller
loop-up-smaller c = search walks

pub loop-up-preserved : goal.loop-up-preserved
loop-up-preserved c = search walks
