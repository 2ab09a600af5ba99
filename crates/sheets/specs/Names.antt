-- The names of a list of files, and which of them are opened (docs/FORMAT.md, Sheets).
use Rattle.std.specs.Prelude.{◌≡◌, ℕ, ◌-◌, ◌<◌, Bool, ◌&&◌, List, [], ◌∷◌, length, take, drop, ◌==◌, nat_le, nat_lt}
use Rattle.slices.specs.Bytes.{if, other, span, all, empty}

-- a line begins at the start and after each LF, and goes up to the next LF or to the end
abbrev pub later_lines : List ℕ → List (List ℕ)
later_lines [] = []
later_lines (b ∷ l) = let r = later_lines l in if (b == 10) (span (other 10) l ∷ r) r

abbrev pub lines_of : List ℕ → List (List ℕ)
lines_of s = span (other 10) s ∷ later_lines s

-- an empty line is no name
abbrev pub named : List (List ℕ) → List (List ℕ)
named [] = []
named (n ∷ ns) = let r = named ns in if (empty n) r (n ∷ r)

unfoldable pub names_of : List ℕ → List (List ℕ)
names_of s = named (lines_of s)

-- a name of a list, and what follows it, by their places: what follows reaches to the end of the list, and the name to what follows
pub record Placed (s name rest : List ℕ) : Type 0 where
  pub some : 0 < length name
  pub named : name ≡ take (length name) (drop (length s - length rest - length name) s)
  pub follows : rest ≡ drop (length s - length rest) s

-- the names that are looked at, and whether there are more
abbrev pub looked : List ℕ → List (List ℕ)
looked s = take 512 (names_of s)

abbrev pub more : List ℕ → Bool
more s = nat_lt 512 (length (names_of s))

-- what has more than 255 bytes or a zero byte is not opened
unfoldable pub openable : List ℕ → Bool
openable n = nat_le (length n) 255 && all (other 0) n
