-- `tags::tag_end` meets its contract.
use Rattle.tags.proofs.Parts.{ends}
use Rattle.tags.proofs.tag_end.Goals as goal

pub returns-then-doc-at-eq62 : goal.returns-then-doc-at-eq62
returns-then-doc-at-eq62 c = search ends

pub returns : goal.returns
returns c = search ends

pub returns-then-doc-at : goal.returns-then-doc-at
returns-then-doc-at c = search ends

pub returns-then-doc-at-ne47 : goal.returns-then-doc-at-ne47
returns-then-doc-at-ne47 c = search ends
