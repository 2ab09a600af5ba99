-- `elements::typed_row` meets its contract.
use Rattle.elements.proofs.Rows.{typed_done}
use Rattle.elements.proofs.typed_row.Goals as goal

pub returns : goal.returns
returns c = typed_done c.requires.ready c.requires.of_kind c.new-head.ensures c.put_row.ensures
