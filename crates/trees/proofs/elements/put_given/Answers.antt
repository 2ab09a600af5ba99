-- What `trees::elements::put_given` leaves to show.
use Rattle.trees.proofs.Texts.{givens}
use Rattle.trees.proofs.elements.put_given.Goals as goal

pub put_bytes-requires : goal.put_bytes-requires
put_bytes-requires c = search givens

pub returns : goal.returns
returns c = search givens
