-- What `profile::first_no_char` leaves to show. Its loop is in Invariants.antt.
use Rattle.profile.proofs.Going.{free_again}
use Rattle.profile.proofs.first_no_char.Goals as goal

pub loop-at-preserved : goal.loop-at-preserved
loop-at-preserved c = free_again c.loop-at.invariant c.loop-at-test.true c.no_char.ensures c.if-no_char.false c.next_doubt-at-in-loop-at.ensures
