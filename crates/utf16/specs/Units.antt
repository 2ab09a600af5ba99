-- The code units of UTF-16: the Unicode Standard, definitions D71 to D76 (surrogates and scalar values), D91 (UTF-16), D96 and D97 (its byte orders),
-- and table 3-5, UTF-16 Bit Distribution.
use Rattle.std.specs.Prelude.{ℕ, ◌+◌, ◌-◌, ◌*◌, ◌/◌, ◌%◌, List, [], ◌∷◌, ◌++◌, Bool, ◌&&◌, ◌||◌, leb, ltb}
use Rattle.slices.specs.Bytes.{if}

-- the unit of two bytes: the most significant stands first in big endian, and last in little endian
abbrev pub unit : Bool → ℕ → ℕ → ℕ
unit big a b = if big (a * 256 + b) (b * 256 + a)

-- a byte that is left over makes none
abbrev pub units : Bool → List ℕ → List ℕ
units big [] = []
units big (a ∷ []) = []
units big (a ∷ b ∷ l) = unit big a b ∷ units big l

-- a high surrogate, the first unit of a pair, and a low one, the second
abbrev pub high : ℕ → Bool
high u = leb 0xd800 u && leb u 0xdbff

abbrev pub low : ℕ → Bool
low u = leb 0xdc00 u && leb u 0xdfff

-- the scalar value of a pair
abbrev pub pair : ℕ → ℕ → ℕ
pair h l = 0x10000 + (h - 0xd800) * 0x400 + (l - 0xdc00)

-- any code point that is no surrogate
abbrev pub scalar_value : ℕ → Bool
scalar_value c = leb c 0xd7ff || (leb 0xe000 c && leb c 0x10ffff)

-- the units of a scalar value: itself, or a surrogate pair
unfoldable pub utf16 : ℕ → List ℕ
utf16 c = if (ltb c 0x10000) (c ∷ []) ((0xd800 + (c - 0x10000) / 0x400) ∷ (0xdc00 + (c - 0x10000) % 0x400) ∷ [])

-- those of scalar values, one after the other
abbrev pub in_units : List ℕ → List ℕ
in_units [] = []
in_units (c ∷ cs) = utf16 c ++ in_units cs
