-- What `members::InAnnotationElement::child` leaves to show.
use Rattle.document.proofs.Loops.{child_bare}
use Rattle.members.proofs.InAnnotationElement.child.Goals as goal

pub returns-clause-is : goal.returns-clause-is
returns-clause-is c = child_bare c.requires.owner c.skip_unsupported.ensures
