-- `order::certify` meets its contract.
use Rattle.std.proofs.Common.{sym, ◌∙◌}
use Rattle.order.proofs.Deciding.{certain_short, certain_order}
use Rattle.order.proofs.certify.Goals as goal
use Rattle.order.proofs.certify.Goals.{then-out-count, else-out-count}

pub returns-then-is_order : goal.returns-then-is_order
returns-then-is_order c =
    elim c.if-out-count.branch [
      | then-out-count w ↦ certain_short c.check_members.ensures c.in_ok-unnamed.was w.if-out-count.true
      | else-out-count w ↦ certain_order
          c.check_members.ensures
          c.in_ok-unnamed.was
          w.if-out-count.false
          w.is_order.ensures
          (sym w.value-is ∙ c.if-is_order.true)
    ]
