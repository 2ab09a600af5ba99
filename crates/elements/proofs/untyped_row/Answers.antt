-- `elements::untyped_row` meets its contract.
use Rattle.elements.proofs.Rows.{untyped_done}
use Rattle.elements.proofs.untyped_row.Goals as goal

pub returns : goal.returns
returns c = untyped_done c.requires.ready c.requires.of_kind c.new-head.ensures c.put_row.ensures
