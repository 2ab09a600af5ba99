-- `scan::table::classes` meets its contract.
use mathlib.Core.Path.{refl}
use Rattle.scan.proofs.Class.{classes_table}
use Rattle.scan.proofs.table.classes.Goals as goal

pub invariant_of-result : goal.invariant_of-result
invariant_of-result c = record { classes = classes_table _ refl }
