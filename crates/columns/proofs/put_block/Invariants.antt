-- `columns::put_block` meets its contract. The invariant: the words before `k` of each row of the block are put.
use Rattle.columns.proofs.Filling.{Going}
use Rattle.columns.proofs.put_block.Given as goal

abbrev pub invariant-loop-k : goal.invariant-loop-k
invariant-loop-k g l = Going (g.W.Way.place l.count) (g.W.Way.word l.count l.source) l.k l.from l.to l.initial.out l.out
