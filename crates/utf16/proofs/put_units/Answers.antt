-- What `utf16::put_units` leaves to show. Its loop is in Invariants.antt.
use Rattle.utf16.proofs.Decoding.{puts}
use Rattle.utf16.proofs.put_units.Goals as goal

pub loop-at-preserved-then-u-lt128 : goal.loop-at-preserved-then-u-lt128
loop-at-preserved-then-u-lt128 c = search puts
