-- `breaches::ignored_breach` meets its contract. A comment, or nothing to look at.
use Rattle.breaches.proofs.Comments.{comments}
use Rattle.breaches.proofs.ignored_breach.Goals as goal

pub comment_breach-requires : goal.comment_breach-requires
comment_breach-requires c = search comments

pub returns-then-starts_at : goal.returns-then-starts_at
returns-then-starts_at c = search comments

pub returns : goal.returns
returns c = search comments
