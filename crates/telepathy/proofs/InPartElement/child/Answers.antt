-- What `telepathy::InPartElement::child` leaves to show.
use Rattle.telepathy.proofs.Sorts.{child_none}
use Rattle.telepathy.proofs.InPartElement.child.Goals as goal

pub returns-clause-is : goal.returns-clause-is
returns-clause-is c = child_none c.docstring_or_skip.ensures
