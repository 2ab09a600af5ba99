-- `tables::fill` meets its contract. The invariant: to fill the rest of the present table gives what the contract asks.
use Rattle.tables.proofs.Tables.{Filling}
use Rattle.tables.proofs.fill.Given as goal

abbrev pub invariant-loop-i : goal.invariant-loop-i
invariant-loop-i g l = Filling l.value l.from l.initial.table l.table l.i
