-- `writers::put_member` meets its contract.
use Rattle.writers.proofs.Members.{members}
use Rattle.writers.proofs.put_member.Goals as goal

pub returns-then-has_children : goal.returns-then-has_children
returns-then-has_children c = search members

pub returns : goal.returns
returns c = search members
