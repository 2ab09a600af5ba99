-- What putting bytes at a count into a lent buffer says.
use Rattle.std.specs.Prelude.{ℕ, ◌+◌, ◌≡◌, List, ◌++◌, length}
use Rattle.tables.specs.Table.{Rep}

-- bytes are added to a buffer that may be full: all are counted, and it stands for the bytes with these at their end
pub record Puts (ys : List ℕ) (n : ℕ) (buf buf' : List ℕ) (r : ℕ) : Type 0 where
  pub counts : r ≡ n + length ys
  pub stands : (xs : List ℕ) → Rep 1 buf n xs → Rep 1 buf' r (xs ++ ys)
