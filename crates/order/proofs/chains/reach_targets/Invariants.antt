-- `order::chains::reach_targets` meets its contract.
use Rattle.order.proofs.Reaching.{Reaching}
use Rattle.order.specs.Table.{over}
use Rattle.order.proofs.chains.reach_targets.Given as goal

abbrev pub invariant-loop-k : goal.invariant-loop-k
invariant-loop-k l = over Reaching l.table l.i l.initial.marks l.marks l.k
