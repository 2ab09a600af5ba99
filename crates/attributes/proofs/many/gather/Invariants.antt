-- `attributes::many::gather` meets its contract: what was asked is what is asked from here on, after the first n, whose entries are taken.
use Prim.Native.Nat.{◌-◌}
use lib.ListN.{length}
use Rattle.attributes.proofs.Marking.{Marking}
use Rattle.attributes.proofs.many.gather.Given as goal

abbrev pub invariant-loop-attrs : goal.invariant-loop-attrs
invariant-loop-attrs l = Marking l.doc l.from l.attrs l.seen l.n l.at

abbrev pub decreases-loop-attrs : goal.decreases-loop-attrs
decreases-loop-attrs l = length l.doc - l.at
