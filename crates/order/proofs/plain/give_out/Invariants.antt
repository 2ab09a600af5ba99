-- `order::plain::give_out` meets its contract.
use Rattle.order.proofs.Giving.{Giving}
use lib.ListN.{length}
use Rattle.order.specs.Steps.{left_in}
use Rattle.order.specs.Table.{over, shown_rows}
use Rattle.order.proofs.plain.give_out.Given as goal

abbrev pub invariant-loop-row : goal.invariant-loop-row
invariant-loop-row l = over Giving l.table (length l.initial.out) l.given l.out l.count

abbrev pub decreases-loop-row : goal.decreases-loop-row
decreases-loop-row l = length (left_in (shown_rows l.table) l.given)
