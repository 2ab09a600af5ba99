-- What storing words from a place on says.
use Rattle.std.specs.Prelude.{ℕ, ◌≡◌, List}
use Rattle.std.proofs.lemmas.List.Edits.{sets}

pub record Copied (base : ℕ) (words before after : List ℕ) : Type 0 where
  pub is : after ≡ sets before base words
