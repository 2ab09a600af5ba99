-- `elements::member_row` meets its contract.
use Rattle.elements.proofs.Rows.{member_done}
use Rattle.elements.proofs.member_row.Goals as goal

pub returns : goal.returns
returns c = member_done c.requires.ready c.new-head.ensures c.put_row.ensures
