-- Where a well-formed text may be cut, and what the steps of trimming say.
use Rattle.std.specs.Prelude.{ℕ, ◌+◌, ◌-◌, ◌≤◌, ◌<◌, ◌≡◌, List, reverse, length, take, drop}
use Rattle.slices.specs.Bytes.{if}
use Rattle.utf8.specs.WellFormed.{sequence, ill_formed}
use Rattle.utf8.specs.WhiteSpace.{characters, code_point, white_space, leading, trim_start, trim_end}

-- what stands before a place is well-formed, and what follows it is
pub record Boundary (s : List ℕ) (at : ℕ) : Type 0 where
  pub inside : at ≤ length s
  pub before : ill_formed (take at s) ≡ length (take at s)
  pub after : ill_formed (drop at s) ≡ length (drop at s)

-- the first u bytes are well-formed
pub record Start (s : List ℕ) (u : ℕ) : Type 0 where
  pub inside : u ≤ length s
  pub is : ill_formed (take u s) ≡ u

-- how many bytes the first character takes if it is White_Space, or 0
unfoldable pub white : List ℕ → ℕ
white l = if (white_space (code_point (take (sequence l) l))) (sequence l) 0

-- how many bytes the last characters take that are White_Space
unfoldable pub trailing : List ℕ → ℕ
trailing s = leading (reverse (characters s))

-- r is where the character begins that ends at a place
pub record Last (s : List ℕ) (end r : ℕ) : Type 0 where
  pub cut : Boundary s r
  pub below : r < end
  pub ends : r + sequence (drop r s) ≡ end

-- r is where the text begins once it is trimmed
pub record Starts (s : List ℕ) (r : ℕ) : Type 0 where
  pub is : r ≡ trim_start s
  pub cut : Boundary s r

-- r is where the text ends once its end is trimmed
pub record Ends (s : List ℕ) (r : ℕ) : Type 0 where
  pub is : r + trailing s ≡ length s

-- what trimming leaves of a well-formed text lies inside it
abbrev pub TrimmedInside : Type 0
TrimmedInside = (s : List ℕ) → ill_formed s ≡ length s → (trim_start s ≤ trim_end s) × (trim_end s ≤ length s)

-- what trimming leaves of a well-formed text is well-formed
abbrev pub TrimmedFormed : Type 0
TrimmedFormed =
    (s : List ℕ) →
    ill_formed s ≡ length s →
    ill_formed (take (trim_end s - trim_start s) (drop (trim_start s) s)) ≡ length (take (trim_end s - trim_start s) (drop (trim_start s) s))
