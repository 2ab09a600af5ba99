-- What `trees::elements::put_docstring` leaves to show.
use Rattle.trees.proofs.Texts.{docs}
use Rattle.trees.proofs.elements.put_docstring.Goals as goal

pub put_bytes-told-requires : goal.put_bytes-told-requires
put_bytes-told-requires c = search docs

pub put_bytes-requires : goal.put_bytes-requires
put_bytes-requires c = search docs

pub returns : goal.returns
returns c = search docs
