-- `slices::hash` meets its contract: what is left to hash from here makes the hash of all.
use Rattle.slices.proofs.Hashing.{Hashing}
use Rattle.slices.proofs.hash.Given as goal

abbrev pub invariant-loop-b : goal.invariant-loop-b
invariant-loop-b l = Hashing l.s l.b-index l.h
