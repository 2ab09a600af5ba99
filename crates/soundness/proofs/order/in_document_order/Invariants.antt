-- `soundness::order::in_document_order` meets its contract: the rows so far are in document order.
use Rattle.items.specs.Order.{DocumentOrder}
use Rattle.soundness.proofs.order.in_document_order.Given as goal

abbrev pub invariant-loop-k : goal.invariant-loop-k
invariant-loop-k l = DocumentOrder l.rows l.k
