-- `sheet::add_names` meets its contract. The invariant: the names before the rest of the list are added, and those of the rest are left.
use Rattle.std.proofs.Common.{◌-◌}
use Rattle.sheets.proofs.Filing.{Going}
use Rattle.sheet.proofs.add_names.Given as goal

abbrev pub invariant-loop-name : goal.invariant-loop-name
invariant-loop-name g l = Going l.list l.initial.counts l.counts l.rest l.names

abbrev pub decreases-loop-name : goal.decreases-loop-name
decreases-loop-name g l = 512 - l.names
