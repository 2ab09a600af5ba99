-- `utf8::largest` meets its contract. The invariant: none of the bytes passed is larger than `m`.
use Rattle.utf8.specs.Ascii.{AtMost}
use Rattle.utf8.proofs.largest.Given as goal

abbrev pub invariant-loop-b : goal.invariant-loop-b
invariant-loop-b l = AtMost l.s l.from l.b-index l.m
