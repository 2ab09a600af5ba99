-- What the steps of the public entry say.
use Rattle.std.specs.Prelude.{ℕ, ◌*◌, ◌/◌, ◌≡◌, List, Bool, not, ◌||◌, ltb, length, replicate, Result, Ok, Err}
use Rattle.tables.specs.Table.{cleared}
use Rattle.document.specs.Reading.{begun}
use Rattle.document.specs.Outcome.{lent, Sound, runs}
use Rattle.document.specs.declared.Refusal.{Refusal}
use Rattle.document.specs.declared.Fill.{Fill}
use Rattle.document.specs.Verdict.{Verdict, counts}
use Rattle.reader.specs.Nodes.{EndsNodes}

-- a document within the limit and UTF-8 has been read to its end, as the answer and the buffers say
pub record Ended (doc rows warnings text : List ℕ) (a : Result Fill Refusal) : Type 0 where
  pub sound : Sound doc
  pub ends : EndsNodes (runs doc 0 begun) (lent rows warnings text) a

-- what a refusal says: zeros in every buffer
pub record Refuses (x : Refusal) (rows rows' warnings warnings' text text' : List ℕ) (v : Verdict) : Type 0 where
  pub verdict : v ≡ Err x
  pub of_rows : rows' ≡ replicate (length rows) 0
  pub of_warnings : warnings' ≡ replicate (length warnings) 0
  pub of_text : text' ≡ replicate (length text) 0

-- the counts have room
abbrev pub has_room : ℕ → ℕ → ℕ → Fill → Bool
has_room r w t f = not (ltb (r / 16) f.rows || ltb (w / 4) f.warnings || ltb t f.text)

pub record HasRoom (r w t : ℕ) (f : Fill) (b : Bool) : Type 0 where
  pub is : b ≡ has_room r w t f

-- what an acceptance says: zeros past the used part
pub record Accepts (f : Fill) (rows rows' warnings warnings' text text' : List ℕ) (v : Verdict) : Type 0 where
  pub verdict : v ≡ Ok (counts f.rows f.text f.warnings)
  pub of_rows : rows' ≡ cleared (f.rows * 16) rows
  pub of_warnings : warnings' ≡ cleared (f.warnings * 4) warnings
  pub of_text : text' ≡ cleared f.text text
