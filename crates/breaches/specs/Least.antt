-- The least of some places.
use Rattle.std.specs.Prelude.{ℕ, min, List, [], ◌∷◌, Option, Some, None}

unfoldable pub lesser : Option ℕ → Option ℕ → Option ℕ
lesser None b = b
lesser (Some p) None = Some p
lesser (Some p) (Some q) = Some (min p q)

unfoldable pub least : List ℕ → Option ℕ
least [] = None
least (p ∷ ps) = lesser (Some p) (least ps)
