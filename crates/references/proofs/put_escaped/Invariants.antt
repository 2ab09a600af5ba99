-- `references::put_escaped` meets its contract: what stands before here is put as it is escaped.
use Rattle.references.proofs.Escapes.{Escaping}
use Rattle.references.proofs.put_escaped.Given as goal

abbrev pub invariant-loop-b : goal.invariant-loop-b
invariant-loop-b l = Escaping l.value l.n l.initial.out l.out l.b-index l.m
