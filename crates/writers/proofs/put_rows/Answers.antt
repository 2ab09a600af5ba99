-- What `writers::put_rows` leaves to show. Its loop is in Invariants.antt.
use Rattle.writers.proofs.Several.{adding}
use Rattle.writers.proofs.put_rows.Goals as goal

pub returns-then-n-gt4294967295 : goal.returns-then-n-gt4294967295
returns-then-n-gt4294967295 c = search adding
