-- Uses by looking names up, as code does: each member's tp type, and where it ends in `[]` what stands before that, is looked up
-- among the definitions.
use Rattle.std.specs.Prelude.{ℕ, ◌-◌, List, [], ◌∷◌, ◌++◌, Bool, length, take, drop}
use Rattle.std.proofs.Math.Option.{Option, none, some}
use Rattle.slices.specs.Bytes.{if, bytes, same}
use Rattle.items.specs.Content.{Row}
use Rattle.order.specs.Types.{member_in, first_named}

-- it ends in `[]`; and what stands before that
abbrev pub of_array : List ℕ → Bool
of_array tp = same (drop (length tp - 2) tp) (bytes "[]")

abbrev pub element : List ℕ → List ℕ
element tp = take (length tp - 2) tp

abbrev pub listed : Option ℕ → List ℕ
listed none = []
listed (some j) = j ∷ []

-- the rows that a tp type refers to: none, one or two
unfoldable pub referred : List Row → List ℕ → List ℕ
referred t tp = let l = listed (first_named (element tp) 0 t) in listed (first_named tp 0 t) ++ if (of_array tp) l []

abbrev pub referred_by : List Row → Option (List ℕ) → List ℕ
referred_by t none = []
referred_by t (some tp) = referred t tp

-- the rows that the members of row i refer to, member by member; of the rows ms
abbrev pub targets_in : List Row → ℕ → List Row → List ℕ
targets_in t i [] = []
targets_in t i (m ∷ ms) = let r = targets_in t i ms in if (member_in i m) (referred_by t m.tp ++ r) r

unfoldable pub targets : List Row → ℕ → List ℕ
targets t i = targets_in t i t
