-- Well-formed UTF-8, by the Unicode Standard's table 3-7, Well-Formed UTF-8 Byte Sequences.
use Rattle.std.specs.Prelude.{ℕ, zero, suc, List, [], ◌∷◌, Bool, true, false, ◌&&◌, eqb, leb, length}
use Rattle.slices.specs.Bytes.{if}

-- bytes from the first number to the second
pub record Range : Type 0 where
  pub low : ℕ
  pub high : ℕ

abbrev pub to : ℕ → ℕ → Range
to a b = record { low = a; high = b }

-- the rows of the table: the ranges of the first byte, the second, and so on
abbrev pub table : List (List Range)
table =
    (to 0x00 0x7f ∷ [])
    ∷ (to 0xc2 0xdf ∷ to 0x80 0xbf ∷ [])
    ∷ (to 0xe0 0xe0 ∷ to 0xa0 0xbf ∷ to 0x80 0xbf ∷ [])
    ∷ (to 0xe1 0xec ∷ to 0x80 0xbf ∷ to 0x80 0xbf ∷ [])
    ∷ (to 0xed 0xed ∷ to 0x80 0x9f ∷ to 0x80 0xbf ∷ [])
    ∷ (to 0xee 0xef ∷ to 0x80 0xbf ∷ to 0x80 0xbf ∷ [])
    ∷ (to 0xf0 0xf0 ∷ to 0x90 0xbf ∷ to 0x80 0xbf ∷ to 0x80 0xbf ∷ [])
    ∷ (to 0xf1 0xf3 ∷ to 0x80 0xbf ∷ to 0x80 0xbf ∷ to 0x80 0xbf ∷ [])
    ∷ (to 0xf4 0xf4 ∷ to 0x80 0x8f ∷ to 0x80 0xbf ∷ to 0x80 0xbf ∷ [])
    ∷ []

abbrev pub within : Range → ℕ → Bool
within r b = leb r.low b && leb b r.high

-- the bytes begin with one of each range
abbrev pub begins : List Range → List ℕ → Bool
begins [] l = true
begins (r ∷ rs) [] = false
begins (r ∷ rs) (b ∷ l) = let t = begins rs l in if (within r b) t false

-- how many bytes the first row takes with which the bytes begin, or 0
abbrev pub first_row : List (List Range) → List ℕ → ℕ
first_row [] l = 0
first_row (r ∷ rs) l = let t = first_row rs l in if (begins r l) (length r) t

-- how many bytes the well-formed sequence takes with which the bytes begin, or 0
unfoldable pub sequence : List ℕ → ℕ
sequence l = first_row table l

abbrev pub onward : ℕ → ℕ → (ℕ → ℕ) → ℕ
onward zero at f = at
onward (suc k) at f = f k

-- of what is left from a place on, when so many bytes are taken already
abbrev pub ill_formed_from : ℕ → List ℕ → ℕ → ℕ
ill_formed_from k [] at = at
ill_formed_from zero (b ∷ l) at = onward (sequence (b ∷ l)) at (λ k. ill_formed_from k l (suc at))
ill_formed_from (suc k) (b ∷ l) at = ill_formed_from k l (suc at)

-- the place of the first ill-formed sequence, or the length
unfoldable pub ill_formed : List ℕ → ℕ
ill_formed s = ill_formed_from 0 s 0

abbrev pub well_formed : List ℕ → Bool
well_formed s = eqb (ill_formed s) (length s)
