-- What `references::check` leaves to show. Its loop is in Invariants.antt.
use Rattle.references.proofs.Values.{checks}
use Rattle.references.proofs.check.Goals as goal

pub returns-in-Err : goal.returns-in-Err
returns-in-Err c = search checks
