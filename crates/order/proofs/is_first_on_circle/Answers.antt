-- `order::is_first_on_circle` meets its contract.
use Rattle.std.proofs.Common.{sym, ◌∙◌, arith}
use borrow.Author.Tests.{ltb-true}
use Rattle.order.proofs.Deciding.{first-is}
use Rattle.order.proofs.is_first_on_circle.Goals as goal
use Rattle.order.proofs.is_first_on_circle.Goals.{then-p-by_name, else-p-by_name}

pub returns-then-is_some : goal.returns-then-is_some
returns-then-is_some c =
    elim c.if-p-by_name.branch [
      | then-p-by_name w ↦ first-is w.check_members.ensures (sym w.is_some.ensures ∙ sym w.value-is ∙ c.if-is_some.true) c.is_circle.ensures
      | else-p-by_name w ↦ absurd (omega (arith, ltb-true c.args.p c.args.by_name.now.table.now.n (sym w.value-is ∙ c.if-is_some.true)))
    ]
