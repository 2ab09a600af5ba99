-- `writers::put_member_end` meets its contract.
use Rattle.writers.proofs.Members.{tags}
use Rattle.writers.proofs.put_member_end.Goals as goal

pub returns-in-3 : goal.returns-in-3
returns-in-3 c = search tags

pub returns-in_default : goal.returns-in_default
returns-in_default c = search tags
