-- `attributes::attribute_at` meets its contract.
use Rattle.attributes.proofs.Found.{finds}
use Rattle.attributes.proofs.attribute_at.Goals as goal

pub returns-then-end-start : goal.returns-then-end-start
returns-then-end-start c = search finds

pub returns : goal.returns
returns c = search finds
