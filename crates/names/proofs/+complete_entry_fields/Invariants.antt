-- The measures of the cycle of calls of `complete`, `entry` and `fields`: each call is at a later place, but that of `complete` by `fields`,
-- whose measure is one more.
use Rattle.std.proofs.Common.{◌+◌, ◌-◌, ◌*◌, length}
use Rattle.names.proofs.+complete_entry_fields.Given as goal

abbrev pub decreases-complete : goal.decreases-complete
decreases-complete l = 2 * (length l.s.now - l.at)

abbrev pub decreases-entry : goal.decreases-entry
decreases-entry l = 2 * (length l.s.now - l.key)

abbrev pub decreases-fields : goal.decreases-fields
decreases-fields l = 2 * (length l.s.now - l.from) + 1
