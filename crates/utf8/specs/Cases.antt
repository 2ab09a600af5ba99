-- Worked examples of the definitions: where the first ill-formed sequence of a text begins, and where a text begins and ends once it is trimmed.
use Rattle.std.specs.Prelude.{ℕ, ◌≡◌, refl, List, [], ◌∷◌, map}
use Rattle.utf8.specs.WellFormed.{sequence, ill_formed}
use Rattle.utf8.specs.WhiteSpace.{characters, trim_start, trim_end}

-- no continuation byte; cut at the end; overlong, twice; a surrogate; past U+10FFFF; a continuation byte alone; the largest and the smallest of some rows
abbrev pub texts : List (List ℕ × ℕ)
texts =
    (0xc3 ∷ 0x28 ∷ [], 0)
    ∷ (0x61 ∷ 0xe2 ∷ 0x82 ∷ [], 1)
    ∷ (0xc0 ∷ 0x80 ∷ [], 0)
    ∷ (0xe0 ∷ 0x80 ∷ 0x80 ∷ [], 0)
    ∷ (0xed ∷ 0xa0 ∷ 0x80 ∷ [], 0)
    ∷ (0xf4 ∷ 0x90 ∷ 0x80 ∷ 0x80 ∷ [], 0)
    ∷ (0x61 ∷ 0x80 ∷ [], 1)
    ∷ (0xdf ∷ 0xbf ∷ 0xe0 ∷ 0xa0 ∷ 0x80 ∷ 0xed ∷ 0x9f ∷ 0xbf ∷ [], 8)
    ∷ (0xf0 ∷ 0x90 ∷ 0x80 ∷ 0x80 ∷ 0xf4 ∷ 0x8f ∷ 0xbf ∷ 0xbf ∷ 0x61 ∷ [], 9)
    ∷ []

pub found : map (λ c. ill_formed c.0) texts ≡ map (λ c. c.1) texts
unfolding ill_formed sequence
found = refl

-- U+3000 a U+0085; U+1680 a space b U+205F; all White_Space; U+200B, which is none; nothing
abbrev pub trimmed : List (List ℕ × List ℕ)
trimmed =
    (0xe3 ∷ 0x80 ∷ 0x80 ∷ 0x61 ∷ 0xc2 ∷ 0x85 ∷ [], 3 ∷ 4 ∷ [])
    ∷ (0xe1 ∷ 0x9a ∷ 0x80 ∷ 0x61 ∷ 0x20 ∷ 0x62 ∷ 0xe2 ∷ 0x81 ∷ 0x9f ∷ [], 3 ∷ 6 ∷ [])
    ∷ (0x20 ∷ 0x9 ∷ [], 2 ∷ 2 ∷ [])
    ∷ (0xe2 ∷ 0x80 ∷ 0x8b ∷ [], 0 ∷ 3 ∷ [])
    ∷ ([], 0 ∷ 0 ∷ [])
    ∷ []

pub cut : map (λ c. trim_start c.0 ∷ trim_end c.0 ∷ []) trimmed ≡ map (λ c. c.1) trimmed
unfolding trim_start trim_end characters sequence
cut = refl
