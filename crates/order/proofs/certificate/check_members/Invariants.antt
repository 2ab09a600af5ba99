-- `order::certificate::check_members` meets its contract.
use Rattle.order.proofs.Checking.{Fallen}
use Rattle.order.specs.Table.{over}
use Rattle.order.proofs.certificate.check_members.Given as goal

abbrev pub invariant-loop-m : goal.invariant-loop-m
invariant-loop-m l = over Fallen l.by_name.table.now l.by_name.work.now l.p l.m l.count
