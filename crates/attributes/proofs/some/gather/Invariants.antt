-- `attributes::some::gather` meets its contract: what was asked is what is asked from here on, after the first n.
use Prim.Native.Nat.{◌-◌}
use lib.ListN.{length}
use Rattle.attributes.specs.Outcome.{Fresh}
use Rattle.attributes.proofs.Gathering.{Gathering}
use Rattle.attributes.proofs.some.gather.Given as goal

abbrev pub invariant-loop-attrs : goal.invariant-loop-attrs
invariant-loop-attrs l = Gathering 16 l.doc l.from l.attrs l.n l.at × Fresh l.doc l.attrs l.n

abbrev pub decreases-loop-attrs : goal.decreases-loop-attrs
decreases-loop-attrs l = length l.doc - l.at
