-- `tags::closing_tag` meets its contract.
use Rattle.tags.proofs.Parts.{closings}
use Rattle.tags.proofs.closing_tag.Goals as goal

pub returns-then-named-at : goal.returns-then-named-at
returns-then-named-at c = search closings

pub returns-then-doc-end : goal.returns-then-doc-end
returns-then-doc-end c = search closings

pub returns : goal.returns
returns c = search closings
