-- `attributes::gathered::check` meets its contract. The invariant: the attributes before this one are good.
use Rattle.attributes.proofs.Checking.{Checking}
use Rattle.attributes.proofs.gathered.check.Given as goal

abbrev pub invariant-loop-i : goal.invariant-loop-i
invariant-loop-i l = Checking l.doc l.attrs l.i
