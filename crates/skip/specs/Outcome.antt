-- What putting a docstring's trimmed content into the rows says.
use Rattle.std.specs.Prelude.{ℕ, ◌-◌, ◌<◌, List, length, take, drop}
use Rattle.document.specs.Tags.{Shown}
use Rattle.document.specs.Rows.{Tables}
use Rattle.document.specs.Reading.{captured}
use Rattle.document.specs.Outcome.{lent, Stands}
use Rattle.document.specs.declared.Fill.{Fill}

-- the content from a place up to another becomes the docstring of row i, unless it is empty
pub record Puts (doc : List ℕ) (from lt i : ℕ) (rows rows' : List ℕ) : Type 0 where
  pub stands :
      (u : Tables Shown) (f : Fill) (w bytes : List ℕ) →
      i < length u.rows →
      Stands u (lent rows w bytes) f →
      Stands (captured (take (lt - from) (drop from doc)) from i u) (lent rows' w bytes) f
