-- What `profile::after_fault` leaves to show. Its loop is in Invariants.antt.
use Rattle.profile.proofs.Afters.{after_stops}
use Rattle.profile.proofs.after_fault.Goals as goal

pub returns-in-Err : goal.returns-in-Err
returns-in-Err c = after_stops c.loop-at.invariant c.loop-at-test.true c.misc_at.ensures c.in-Err.is
