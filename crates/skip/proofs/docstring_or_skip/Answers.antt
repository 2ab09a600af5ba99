-- What `skip::docstring_or_skip` leaves to show.
use Rattle.document.proofs.Loops.{others}
use Rattle.skip.proofs.docstring_or_skip.Goals as goal

pub returns : goal.returns
returns c = search others

pub returns-then-c-eq-DOCSTRING : goal.returns-then-c-eq-DOCSTRING
returns-then-c-eq-DOCSTRING c = search others
