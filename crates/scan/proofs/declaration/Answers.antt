-- What `scan::declaration` leaves to show. Its loop is in Invariants.antt.
use Rattle.scan.proofs.Declarations.{declares}
use Rattle.scan.proofs.declaration.Goals as goal

pub returns-then-s-close : goal.returns-then-s-close
returns-then-s-close c = search declares
