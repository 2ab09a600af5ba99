-- `utf16::decode` meets its contract.
use Rattle.utf16.proofs.Answers.{marks, says-big, says-little, says_none}
use Rattle.utf16.proofs.decode.Goals as goal

pub returns-then-starts_at : goal.returns-then-starts_at
returns-then-starts_at c = says-big c.type_inv.raw c.starts_at.ensures (search marks) c.decode_ordered.ensures (search marks)

pub returns-then-starts_at-2 : goal.returns-then-starts_at-2
returns-then-starts_at-2 c = says-little c.type_inv.raw c.starts_at.ensures (search marks) c.starts_at-2.ensures (search marks) c.decode_ordered-then-starts_at-2.ensures (search marks)

pub returns : goal.returns
returns c = says_none c.type_inv.raw c.starts_at.ensures (search marks) c.starts_at-2.ensures (search marks) (search marks)
