-- `writers::put_annotations` meets its contract: what is put and what is left are the annotations asked for.
use Rattle.writers.specs.Writes.{annotations_in}
use Rattle.writers.proofs.Appending.{Appending}
use Rattle.writers.proofs.put_annotations.Given as goal

abbrev pub invariant-loop-k : goal.invariant-loop-k
invariant-loop-k l = Appending (λ j. annotations_in l.source.document.now l.source.text.now l.source.rows.now l.p j l.to) 16777216 l.from l.to l.n l.initial.out l.out l.k l.m
