-- Where a text begins and ends once Unicode White_Space is trimmed from both ends.
use Rattle.std.specs.Prelude.{ℕ, zero, suc, pred, ◌+◌, ◌-◌, ◌*◌, ◌≡◌, List, [], ◌∷◌, reverse, Bool, ◌&&◌, ◌||◌, eqb, leb, length, take, drop}
use Rattle.slices.specs.Bytes.{if}
use Rattle.utf8.specs.WellFormed.{sequence}
use Rattle.utf8.specs.declared.Trimmed.{Trimmed}

-- the bytes of each character, when so many bytes are taken already
abbrev pub characters_from : ℕ → List ℕ → List (List ℕ)
characters_from k [] = []
characters_from zero (b ∷ l) = let n = pred (sequence (b ∷ l)) in take (suc n) (b ∷ l) ∷ characters_from n l
characters_from (suc k) (b ∷ l) = characters_from k l

unfoldable pub characters : List ℕ → List (List ℕ)
characters s = characters_from 0 s

-- the code point of a sequence, by the Unicode Standard's table 3-6, UTF-8 Bit Distribution
abbrev pub code_point : List ℕ → ℕ
code_point [] = 0
code_point (a ∷ []) = a
code_point (a ∷ b ∷ []) = (a - 0xc0) * 64 + (b - 0x80)
code_point (a ∷ b ∷ c ∷ []) = (a - 0xe0) * 4096 + (b - 0x80) * 64 + (c - 0x80)
code_point (a ∷ b ∷ c ∷ d ∷ l) = (a - 0xf0) * 262144 + (b - 0x80) * 4096 + (c - 0x80) * 64 + (d - 0x80)

-- the code points with the property White_Space
abbrev pub white_space : ℕ → Bool
white_space c =
    (leb 0x9 c && leb c 0xd) || eqb c 0x20 || eqb c 0x85 || eqb c 0xa0 || eqb c 0x1680 || (leb 0x2000 c && leb c 0x200a)
    || eqb c 0x2028 || eqb c 0x2029 || eqb c 0x202f || eqb c 0x205f || eqb c 0x3000

-- how many bytes the first characters take that are White_Space
abbrev pub leading : List (List ℕ) → ℕ
leading [] = 0
leading (c ∷ cs) = let r = length c + leading cs in if (white_space (code_point c)) r 0

unfoldable pub trim_start : List ℕ → ℕ
trim_start s = leading (characters s)

unfoldable pub trim_end : List ℕ → ℕ
trim_end s = length s - leading (reverse (characters (drop (trim_start s) s)))

-- what trimming a text says
pub record Trims (s : List ℕ) (r : Trimmed) : Type 0 where
  pub begins : r.start ≡ trim_start s
  pub ends : r.end ≡ trim_end s
