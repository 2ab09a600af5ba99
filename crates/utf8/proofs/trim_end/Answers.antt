-- What `utf8::trim_end` leaves to show. Its loop is in Invariants.antt.
use Rattle.utf8.proofs.Ends.{ends}
use Rattle.utf8.proofs.trim_end.Goals as goal

pub loop-end-preserved : goal.loop-end-preserved
loop-end-preserved c = search ends
