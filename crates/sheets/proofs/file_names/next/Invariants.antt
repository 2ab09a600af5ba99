-- `sheets::file_names::next` meets its contract. The invariant: what was passed over has no name.
use Rattle.std.proofs.Common.{◌-◌, length}
use Rattle.sheets.proofs.Naming.{Seeking}
use Rattle.sheets.proofs.file_names.next.Given as goal

abbrev pub invariant-loop-at : goal.invariant-loop-at
invariant-loop-at l = Seeking l.list l.at

abbrev pub decreases-loop-at : goal.decreases-loop-at
decreases-loop-at l = length l.list - l.at
