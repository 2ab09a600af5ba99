-- The type definitions of a table, which of them uses which, and the members whose types no row defines.
use Rattle.std.specs.Prelude.{ℕ, zero, suc, List, [], ◌∷◌, ◌++◌, Bool, true, false, not, ◌&&◌, eqb}
use Rattle.std.proofs.Math.Option.{Option, none, some}
use Rattle.slices.specs.Bytes.{if, bytes, same}
use Rattle.document.specs.Kinds as kinds
use Rattle.document.specs.Elements.{among}
use Rattle.items.specs.Words.{is_child}
use Rattle.items.specs.Content.{Row, present}

-- simple-type, enum, struct, mapping
abbrev pub defines : Row → Bool
defines r = among r.kind kinds.definitions

-- the numbers of the definition rows; of the rows from row i on
abbrev pub definitions_from : ℕ → List Row → List ℕ
definitions_from i [] = []
definitions_from i (r ∷ rs) = let t = definitions_from (suc i) rs in if (defines r) (i ∷ t) t

abbrev pub definitions : List Row → List ℕ
definitions t = definitions_from 0 t

-- the name that row j shows
abbrev pub name_at : List Row → ℕ → List ℕ
name_at [] j = []
name_at (r ∷ rs) zero = present r.name
name_at (r ∷ rs) (suc j) = name_at rs j

-- the first definition row of a name; of the rows from row i on
abbrev pub first_named : List ℕ → ℕ → List Row → Option ℕ
first_named s i [] = none
first_named s i (r ∷ rs) = let n = first_named s (suc i) rs in if (defines r && same s (present r.name)) (some i) n

abbrev pub is_row : ℕ → Option ℕ → Bool
is_row j none = false
is_row j (some i) = eqb i j

-- of several definitions with one name the first row counts
abbrev pub counts : List Row → ℕ → Bool
counts t j = is_row j (first_named (name_at t j) 0 t)

-- a tp type is a name, or that name followed by `[]`
abbrev pub bears : List ℕ → List ℕ → Bool
bears tp s = let a = same tp (s ++ bytes "[]") in if (same tp s) true a

-- what holds of a tp type that is there
abbrev pub typed : (List ℕ → Bool) → Option (List ℕ) → Bool
typed p none = false
typed p (some tp) = p tp

abbrev pub any_row : (Row → Bool) → List Row → Bool
any_row p [] = false
any_row p (r ∷ rs) = let a = any_row p rs in if (p r) true a

-- m is a member of the definition in row i
abbrev pub member_in : ℕ → Row → Bool
member_in i m = is_child kinds.member (suc i) m.kind m.parent

-- row i uses row j: a member in row i has a tp type that bears the name of row j, which counts
unfoldable pub uses : List Row → ℕ → ℕ → Bool
uses t i j = let a = any_row (λ m. member_in i m && typed (λ tp. bears tp (name_at t j)) m.tp) t in if (counts t j) a false

-- some row defines the name that a tp type bears
abbrev pub defined : List Row → List ℕ → Bool
defined t tp = any_row (λ r. defines r && bears tp (present r.name)) t

-- a member whose tp type is there, and bears no name that a row defines
abbrev pub is_undefined : List Row → Row → Bool
is_undefined t m = eqb m.kind kinds.member && typed (λ tp. not (defined t tp)) m.tp

-- how many
abbrev pub undefined_in : List Row → List Row → ℕ
undefined_in t [] = 0
undefined_in t (m ∷ ms) = let n = undefined_in t ms in if (is_undefined t m) (suc n) n

unfoldable pub undefined : List Row → ℕ
undefined t = undefined_in t t
