-- What `trees::elements::put_close` leaves to show.
use Rattle.trees.proofs.Texts.{names}
use Rattle.trees.proofs.elements.put_close.Goals as goal

pub returns : goal.returns
returns c = search names
