-- `order::certificate::is_ascending` meets its contract.
use Rattle.order.specs.Certificate.{PlacedBefore}
use Rattle.order.specs.Table.{over}
use Rattle.order.proofs.certificate.is_ascending.Given as goal

abbrev pub invariant-loop-k : goal.invariant-loop-k
invariant-loop-k l = over PlacedBefore l.table l.work l.out l.k
