-- What `trees::elements::put_tagged` leaves to show.
use Rattle.trees.proofs.Texts.{tagging}
use Rattle.trees.proofs.elements.put_tagged.Goals as goal

pub returns : goal.returns
returns c = search tagging
