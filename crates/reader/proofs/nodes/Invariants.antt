-- `reader::nodes` meets its contract: the walk has come from the one asked to the present one.
use Prim.Native.Nat.{◌-◌}
use mathlib.Core.Path.{◌≡◌}
use lib.ListN.{length}
use Rattle.document.specs.Outcome.{lent_to, name_at, Keeps}
use Rattle.reader.proofs.Rooted.{Sofar}
use Rattle.reader.proofs.nodes.Given as goal

abbrev pub invariant-loop-f : goal.invariant-loop-f
invariant-loop-f l =
    Keeps l.initial.r l.r × Sofar l.initial.r.doc.now (name_at l.initial.r.doc.now l.at l.len) l.initial.opened l.initial.w (lent_to l.initial.r) l.opened l.w (lent_to l.r) × (length l.opened ≡ length l.initial.opened)

abbrev pub decreases-loop-f : goal.decreases-loop-f
decreases-loop-f l = length l.initial.r.doc.now - l.w.fill.at
