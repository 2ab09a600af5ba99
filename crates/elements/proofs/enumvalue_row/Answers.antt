-- `elements::enumvalue_row` meets its contract.
use Rattle.elements.proofs.Rows.{enumvalue_done}
use Rattle.elements.proofs.enumvalue_row.Goals as goal

pub returns : goal.returns
returns c = enumvalue_done c.requires.ready c.new-head.ensures c.put_row.ensures
