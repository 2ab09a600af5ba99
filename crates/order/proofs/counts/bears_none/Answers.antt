-- `order::counts::bears_none` meets its contract.
use Rattle.std.proofs.Common.{sym, ◌∙◌}
use Rattle.order.proofs.Counting.{bears_less, bearing}
use Rattle.order.proofs.counts.bears_none.Goals as goal
use Rattle.order.proofs.counts.bears_none.Goals.{then-not-is_absent, else-not-is_absent}

pub returns-then-is_none : goal.returns-then-is_none
returns-then-is_none c =
    elim c.if-not-is_absent.branch [
      | then-not-is_absent w ↦ bears_less
          c.triple.ensures
          c.is_absent.ensures
          w.if-not-is_absent.true
          c.requires.whole
          w.is_none.ensures
          (sym w.value-is ∙ c.if-is_none.true)
          c.requires.less
          c.is_none-then-is_none.ensures
      | else-not-is_absent w ↦ absurd (cc)
    ]

pub returns-else-is_none : goal.returns-else-is_none
returns-else-is_none c = elim c.if-not-is_absent.branch [ then-not-is_absent w ↦ search bearing | else-not-is_absent w ↦ search bearing ]
