-- `writers::put_rows` meets its contract.
use lib.ListN.{length}
use Rattle.writers.proofs.Several.{Adding}
use Rattle.writers.proofs.put_rows.Given as goal

abbrev pub invariant-loop-k : goal.invariant-loop-k
invariant-loop-k l = Adding l.source.document.now l.source.text.now l.source.rows.now l.count l.asked l.out l.ends (length l.initial.out) (length l.initial.ends) l.k l.n
