-- `sheets::lines::put_lines` meets its contract. The invariant: the lines of the numbers before `k` are put.
use Rattle.sheets.proofs.Lining.{Lining}
use Rattle.sheets.proofs.lines.put_lines.Given as goal

abbrev pub invariant-loop-k : goal.invariant-loop-k
invariant-loop-k l = Lining l.letter l.table l.n l.initial.out l.out l.k l.m
