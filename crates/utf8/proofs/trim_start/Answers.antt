-- What `utf8::trim_start` leaves to show. Its loop is in Invariants.antt.
use Rattle.utf8.proofs.Trims.{trims}
use Rattle.utf8.proofs.trim_start.Goals as goal

pub loop-at-init : goal.loop-at-init
loop-at-init c = search trims

pub loop-at-preserved : goal.loop-at-preserved
loop-at-preserved c = search trims
