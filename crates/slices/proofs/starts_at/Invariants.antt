-- `slices::starts_at` meets its contract. The invariant: the rest of the key is compared with what follows.
use Rattle.slices.proofs.Runs.{Matching}
use Rattle.slices.proofs.starts_at.Given as goal

abbrev pub invariant-loop-i : goal.invariant-loop-i
invariant-loop-i l = Matching l.s l.from l.key l.i
