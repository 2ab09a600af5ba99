-- What `utf16::put_all` leaves to show. Its loop is in Invariants.antt.
use Rattle.utf16.proofs.Decoding.{steps}
use Rattle.utf16.proofs.put_all.Goals as goal

pub returns : goal.returns
returns c = search steps
