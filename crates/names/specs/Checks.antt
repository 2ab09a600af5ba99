-- What the functions that check a part of a name or of a signature say.
use Rattle.std.specs.Prelude.{ℕ, ◌+◌, ◌≤◌, ◌<◌, ◌≡◌, List, [], ◌∷◌, Bool, false, not, length, drop, Option, None, Some}
use Rattle.slices.specs.Bytes.{if, span, digit}
use Rattle.names.specs.Names.{element_byte}
use Rattle.names.specs.Signature.{Open, State, is_array, count, begins, accepts, ended}

-- the element that a text begins with, or nothing
abbrev pub lead : List ℕ → List ℕ
lead [] = []
lead (b ∷ l) = let e = span element_byte (b ∷ l) in if (digit b) [] e

-- r is the end of the element at a place
pub record Element (s : List ℕ) (from r : ℕ) : Type 0 where
  pub ends : r ≡ from + length (lead (drop from s))
  pub onward : from ≤ r
  pub within : r ≤ length s

abbrev pub is_parenthesis : Open → Bool
is_parenthesis o = not (is_array o)

-- this text follows where a complete type is awaited
abbrev pub awaited : List Open → List ℕ → Bool
awaited os [] = false
awaited os (b ∷ l) = accepts l (begins os b)

-- a place that is answered lies further on
abbrev pub Onward : List ℕ → ℕ → Option ℕ → Type 0
Onward s at None = Unit {0}
Onward s at (Some e) = (at < e) × (e ≤ length s)

-- the text is refused; or all goes by what follows the place, with this open
abbrev pub Ends : List ℕ → Bool → List Open → Option ℕ → Type 0
Ends s t os None = t ≡ false
Ends s t os (Some e) = t ≡ accepts (drop e s) (State.good os)

-- so many arrays and parentheses are open
pub record Counted (os : List Open) (arrays parens : ℕ) : Type 0 where
  pub of_arrays : count is_array os ≡ arrays
  pub of_parentheses : count is_parenthesis os ≡ parens

-- a complete type from a place on
pub record Typed (s : List ℕ) (at arrays parens : ℕ) (r : Option ℕ) : Type 0 where
  pub onward : Onward s at r
  pub ends : (os : List Open) → Counted os arrays parens → Ends s (awaited os (drop at s)) (ended os) r

-- the fields of a struct from a place on, and the closing parenthesis
pub record Fielded (s : List ℕ) (at arrays parens : ℕ) (r : Option ℕ) : Type 0 where
  pub onward : Onward s at r
  pub ends : (o : Open) (os : List Open) → is_array o ≡ false → Counted (o ∷ os) arrays parens → Ends s (awaited (o ∷ os) (drop at s)) (ended os) r

-- the key of a dict entry from a place on, its value and the closing brace
pub record Entered (s : List ℕ) (at arrays parens : ℕ) (r : Option ℕ) : Type 0 where
  pub onward : Onward s at r
  pub ends : (os : List Open) → Counted (Open.key ∷ os) arrays parens → Ends s (accepts (drop at s) (State.good (Open.key ∷ os))) (ended os) r
