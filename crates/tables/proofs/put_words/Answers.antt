-- `tables::put_words` meets its contract. Each need follows by the laws on tables.
use Rattle.tables.proofs.Tables.{tables}
use Rattle.tables.proofs.put_words.Goals as goal

pub returns-then-end-table : goal.returns-then-end-table
returns-then-end-table c = search tables
