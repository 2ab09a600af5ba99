-- `shown::member_name` meets its contract.
use Rattle.shown.proofs.Tests.{short_member}
use Rattle.shown.proofs.member_name.Goals as goal

pub returns : goal.returns
returns c = c.tested.ensures _ _ (λ x r is. is) short_member
