-- `columns::put_all` meets its contract. The invariant: the words of the rows before `from` are put.
use Rattle.std.proofs.Common.{◌-◌}
use Rattle.columns.proofs.Filling.{Filled}
use Rattle.columns.proofs.put_all.Given as goal

abbrev pub invariant-loop-from : goal.invariant-loop-from
invariant-loop-from g l = Filled (g.W.Way.place l.count) (g.W.Way.word l.count l.source) l.count l.from l.initial.out l.out

abbrev pub decreases-loop-from : goal.decreases-loop-from
decreases-loop-from g l = l.count - l.from
