-- What `profile::name_fault` leaves to show. Its loop is in Invariants.antt.
use Rattle.std.proofs.Common.{rules}
use Rattle.profile.proofs.Naming.{naming, name_fits, name_more}
use Rattle.profile.proofs.name_fault.Goals as goal

pub loop-at-init : goal.loop-at-init
loop-at-init c = search naming

pub overflow_add-at : goal.overflow_add-at
overflow_add-at c = search (name_fits c.loop-at.invariant c.loop-at-test.true c.character_at-next.ensures, rules)

pub loop-at-preserved : goal.loop-at-preserved
loop-at-preserved c = name_more c.loop-at.invariant c.loop-at-test.true c.character_at-next.ensures c.name_char.ensures c.if-not-name_char.false
