-- Whether a kind is one of some.
use Rattle.std.specs.Prelude.{ℕ, ◌≡◌, List, Bool}
use Rattle.document.specs.Elements.{among}

-- whether a kind is one of these
pub record Among (k : ℕ) (ks : List ℕ) (r : Bool) : Type 0 where
  pub is : r ≡ among k ks
