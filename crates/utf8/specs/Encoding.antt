-- The UTF-8 of a character.
use Rattle.std.specs.Prelude.{ℕ, ◌+◌, ◌/◌, ◌%◌, List, [], ◌∷◌, ltb}
use Rattle.slices.specs.Bytes.{if}

-- the Unicode Standard's table 3-6, UTF-8 Bit Distribution
unfoldable pub utf8 : ℕ → List ℕ
utf8 n =
    if (ltb n 0x80) (n ∷ [])
    (if (ltb n 0x800) ((0xc0 + n / 64) ∷ (0x80 + n % 64) ∷ [])
    (if (ltb n 0x10000) ((0xe0 + n / 4096) ∷ (0x80 + n / 64 % 64) ∷ (0x80 + n % 64) ∷ [])
    ((0xf0 + n / 262144) ∷ (0x80 + n / 4096 % 64) ∷ (0x80 + n / 64 % 64) ∷ (0x80 + n % 64) ∷ [])))
