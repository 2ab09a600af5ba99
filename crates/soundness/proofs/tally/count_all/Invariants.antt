-- `soundness::tally::count_all` meets its contract: the tallies are of the rows so far.
use Rattle.soundness.specs.Outcome.{Tallied}
use Rattle.soundness.proofs.tally.count_all.Given as goal

abbrev pub invariant-loop-k : goal.invariant-loop-k
invariant-loop-k l = Tallied l.table.document.bytes.now l.table.text.bytes.now l.table.rows.now l.table.n l.k l.tallies
