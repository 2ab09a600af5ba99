-- What `children::contents` leaves to show.
use Rattle.document.proofs.Openings.{contents_children}
use Rattle.children.proofs.contents.Goals as goal

pub returns-clause-is : goal.returns-clause-is
returns-clause-is g c = contents_children c.if-c.false c.children.ensures.is
