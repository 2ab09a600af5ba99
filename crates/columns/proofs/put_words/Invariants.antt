-- `columns::put_words` meets its contract. The invariant: the word `k` of the rows before `r` is put, and `above` is the last of them.
use Rattle.columns.proofs.Putting.{WordsGoing}
use Rattle.columns.proofs.put_words.Given as goal

abbrev pub invariant-loop-r : goal.invariant-loop-r
invariant-loop-r l = WordsGoing l.count l.k l.columns l.from l.to l.initial.out l.out l.above l.r
