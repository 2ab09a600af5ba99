-- `attributes::equals_at` meets its contract.
use Rattle.attributes.proofs.Found.{finds}
use Rattle.attributes.proofs.equals_at.Goals as goal

pub returns-then-doc-at-eq61 : goal.returns-then-doc-at-eq61
returns-then-doc-at-eq61 c = search finds
