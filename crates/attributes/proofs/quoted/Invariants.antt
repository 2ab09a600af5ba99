-- `attributes::quoted` meets its contract: the form of what is left, after the form so far, is what was asked.
use Rattle.attributes.proofs.Found.{Quoting}
use Rattle.attributes.proofs.quoted.Given as goal

abbrev pub invariant-loop-at : goal.invariant-loop-at
invariant-loop-at l = Quoting l.quote l.doc l.from l.at l.form
