-- What `trees::elements::put_attribute` leaves to show.
use Rattle.trees.proofs.Texts.{attribute}
use Rattle.trees.proofs.elements.put_attribute.Goals as goal

pub put_given-requires : goal.put_given-requires
put_given-requires c = search attribute
