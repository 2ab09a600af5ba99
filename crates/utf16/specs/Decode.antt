-- The scalar values that the code units of a document say, and their UTF-8.
use Rattle.std.specs.Prelude.{ℕ, ◌+◌, List, [], ◌∷◌, ◌++◌, Bool, drop}
use Rattle.slices.specs.Bytes.{if}
use Rattle.utf8.specs.Encoding.{utf8}
use Rattle.answers.specs.Text.{Text, text, wrong}
use Rattle.utf16.specs.Units.{units, high, low, pair}

-- scalar values; or the place of the first surrogate that has no partner
pub data Scalars : Type 0 where
  scalars : List ℕ → Scalars
  lone : ℕ → Scalars

abbrev pub before : List ℕ → Scalars → Scalars
before bs (scalars cs) = scalars (bs ++ cs)
before bs (lone p) = lone p

-- what stands before a unit: nothing that waits, or the first unit of a pair
pub data Waiting : Type 0 where
  nothing : Waiting
  first : ℕ → Waiting

-- units, whose first byte is at a place; or that of the unit that waits
abbrev pub decode : Waiting → List ℕ → ℕ → Scalars
decode nothing [] at = scalars []
decode nothing (u ∷ l) at =
    let p = decode (first u) l at in
    let r = before (u ∷ []) (decode nothing l (at + 2)) in
    if (high u) p (if (low u) (lone at) r)
decode (first h) [] at = lone at
decode (first h) (u ∷ l) at = let r = before (pair h u ∷ []) (decode nothing l (at + 4)) in if (low u) r (lone at)

-- what is left of a document from a place on
unfoldable pub rest : Bool → List ℕ → ℕ → Scalars
rest big raw at = decode nothing (units big (drop at raw)) at

-- the UTF-8 of scalar values, one after the other
abbrev pub in_bytes : List ℕ → List ℕ
in_bytes [] = []
in_bytes (c ∷ cs) = utf8 c ++ in_bytes cs

-- the text, or 27
abbrev pub text_of : Scalars → Text
text_of (scalars cs) = text (in_bytes cs)
text_of (lone p) = wrong 27 p
