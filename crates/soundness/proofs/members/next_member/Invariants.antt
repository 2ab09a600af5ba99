-- `soundness::members::next_member` meets its contract: the members left are the same.
use Rattle.soundness.proofs.Definitions.{Seeking}
use Rattle.soundness.proofs.members.next_member.Given as goal

abbrev pub invariant-loop-k : goal.invariant-loop-k
invariant-loop-k l = Seeking l.table.rows.now l.table.n l.i l.from l.k
