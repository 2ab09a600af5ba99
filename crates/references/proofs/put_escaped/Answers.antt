-- What `references::put_escaped` leaves to show. Its loop is in Invariants.antt.
use Rattle.references.proofs.Escapes.{escapes}
use Rattle.references.proofs.put_escaped.Goals.{then-is_escapable, else-is_escapable}
use Rattle.references.proofs.put_escaped.Goals as goal

pub loop-b-init : goal.loop-b-init
loop-b-init c = search escapes

pub loop-b-preserved : goal.loop-b-preserved
loop-b-preserved c = elim c.if-is_escapable.branch [
  | then-is_escapable w ↦ rw (w.out-is, w.m-is) (search escapes)
  | else-is_escapable w ↦ rw (w.out-is, w.m-is) (search escapes)
]
