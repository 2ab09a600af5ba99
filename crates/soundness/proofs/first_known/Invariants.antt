-- `soundness::first_known` meets its contract: what is left of the rows decides.
use Rattle.soundness.proofs.Rows.{Checking}
use Rattle.soundness.proofs.first_known.Given as goal

abbrev pub invariant-loop-i : goal.invariant-loop-i
invariant-loop-i l = Checking l.table.document.bytes.now l.table.text.bytes.now l.table.rows.now l.table.n l.i
