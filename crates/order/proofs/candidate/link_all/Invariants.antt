-- `order::candidate::link_all` meets its contract.
use Rattle.order.specs.Index.{Indexed}
use Rattle.order.specs.Table.{over}
use Rattle.order.proofs.candidate.link_all.Given as goal

abbrev pub invariant-loop-m : goal.invariant-loop-m
invariant-loop-m l = over Indexed l.table l.heads l.work
