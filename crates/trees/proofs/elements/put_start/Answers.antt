-- What `trees::elements::put_start` leaves to show.
use Rattle.trees.proofs.Texts.{starts}
use Rattle.trees.proofs.elements.put_start.Goals as goal

pub returns : goal.returns
returns c = search starts
