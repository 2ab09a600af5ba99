-- `order::certificate::is_circle` meets its contract.
use Rattle.order.proofs.Checking.{Leads}
use Rattle.order.specs.Table.{shown_rows}
use Rattle.order.proofs.certificate.is_circle.Given as goal

abbrev pub invariant-loop : goal.invariant-loop
invariant-loop l = Leads (shown_rows l.by_name.table.now) l.by_name.table.now.n l.p l.r
