-- `attributes::gathered::first_named` meets its contract: the first that is wanted is the first of those from here on.
use Rattle.attributes.specs.Lookup.{wanted}
use Rattle.attributes.proofs.First.{Seeking}
use Rattle.attributes.proofs.gathered.first_named.Given as goal

abbrev pub invariant-loop-a : goal.invariant-loop-a
invariant-loop-a l = Seeking (wanted l.sought l.doc) l.attrs l.a-index
