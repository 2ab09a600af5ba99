-- `tables::copy_words` meets its contract. The invariant: the stores that are left make of the present table what the contract asks.
use Rattle.tables.proofs.Tables.{Copying}
use Rattle.tables.proofs.copy_words.Given as goal

abbrev pub invariant-loop-i : goal.invariant-loop-i
invariant-loop-i l = Copying l.base l.words l.initial.table l.table l.i
