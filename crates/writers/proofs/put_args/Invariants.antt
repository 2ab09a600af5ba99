-- `writers::put_args` meets its contract: what is put and what is left are the args asked for.
use Rattle.writers.specs.Writes.{args_in}
use Rattle.writers.proofs.Appending.{Appending}
use Rattle.writers.proofs.put_args.Given as goal

abbrev pub invariant-loop-k : goal.invariant-loop-k
invariant-loop-k l = Appending (args_in l.source.document.now l.source.text.now l.source.rows.now l.count l.p) 4398046511104 l.p l.count l.n l.initial.out l.out l.k l.m
