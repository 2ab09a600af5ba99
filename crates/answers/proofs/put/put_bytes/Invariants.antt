-- `answers::put::put_bytes` meets its contract: the bytes before here are put.
use Rattle.answers.proofs.Putting.{Putting}
use Rattle.answers.proofs.put.put_bytes.Given as goal

abbrev pub invariant-loop-b : goal.invariant-loop-b
invariant-loop-b l = Putting l.bytes l.n l.initial.out l.out l.b-index l.m
