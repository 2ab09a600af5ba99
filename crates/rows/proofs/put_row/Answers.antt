-- `rows::put_row` meets its contract.
use Rattle.rows.proofs.Tables.{row_put}
use Rattle.rows.proofs.put_row.Goals as goal

pub returns : goal.returns
returns c = row_put c.place-a.ensures c.place-b.ensures c.place-c.ensures c.put_placed.ensures
