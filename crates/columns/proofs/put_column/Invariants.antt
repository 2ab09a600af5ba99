-- `columns::put_column` meets its contract. The invariant: the words of the rows before `r` are put, and `above` is the word above row `r`.
use Rattle.columns.proofs.Putting.{ColumnGoing}
use Rattle.columns.proofs.put_column.Given as goal

abbrev pub invariant-loop-r : goal.invariant-loop-r
invariant-loop-r l = ColumnGoing l.count l.k l.rows l.from l.to l.initial.out l.out l.above l.r
