-- What `trees::elements::put_attributes` leaves to show.
use Rattle.trees.proofs.Texts.{attributes_of}
use Rattle.trees.proofs.elements.put_attributes.Goals as goal

pub returns : goal.returns
returns c = search attributes_of
