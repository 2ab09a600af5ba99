-- What `writers::put_annotations` leaves to show. Its loop is in Invariants.antt.
use Rattle.std.proofs.Common.{rules}
use Rattle.writers.proofs.Texts.{note_more, notes}
use Rattle.writers.proofs.put_annotations.Goals as goal

pub loop-k-preserved : goal.loop-k-preserved
loop-k-preserved c = note_more c.loop-k.invariant (search rules) (search rules) c.put_if_annotation-m.ensures

pub returns : goal.returns
returns c = search notes
