-- What a writer is once bytes are put.
use Rattle.std.specs.Prelude.{ℕ, ◌≡◌, List, length}
use denote.Ref.{at_last}
use Rattle.answers.specs.Puts.{Puts}
use Rattle.writer.specs.declared.Writer.{Writer}

-- the same borrow, its pointer and its ghost name with it, of as many bytes; and the bytes are put at the count
pub record Adds (ys : List ℕ) (w r : Writer) : Type 0 where
  pub same : r.buf ≡ at_last w.buf r.buf.now
  pub long : length r.buf.now ≡ length w.buf.now
  pub puts : Puts ys w.len w.buf.now r.buf.now r.len
