-- Worked documents, among them the Unicode Standard's table 3-4: each with the room lent, and what it decodes to.
use Rattle.std.specs.Prelude.{ℕ, ◌≡◌, refl, List, [], ◌∷◌, map, true, false, length, replicate}
use Rattle.utf8.specs.Encoding.{utf8}
use Rattle.answers.specs.Text.{Text, text, wrong}
use Rattle.utf16.specs.Units.{utf16}
use Rattle.utf16.specs.Decode.{rest}
use Rattle.utf16.specs.Entry.{marked, fitting, ordered, decoding}

-- the mark alone; `a` in both orders; U+0000; the mark twice; U+004D, U+0430, U+4E8C and U+10302; the first pair, and the last;
-- an odd number of bytes, with a surrogate before; surrogates alone: a low one, a high one at the end, before a pair, before another unit,
-- and a low one after a pair; no room, and just enough
abbrev pub documents : List (List ℕ × ℕ × Text)
documents =
    (0xfe ∷ 0xff ∷ [], 0, text [])
    ∷ (0xfe ∷ 0xff ∷ 0x00 ∷ 0x61 ∷ [], 9, text (0x61 ∷ []))
    ∷ (0xff ∷ 0xfe ∷ 0x61 ∷ 0x00 ∷ [], 9, text (0x61 ∷ []))
    ∷ (0xff ∷ 0xfe ∷ 0x00 ∷ 0x00 ∷ [], 9, text (0x00 ∷ []))
    ∷ (0xfe ∷ 0xff ∷ 0xfe ∷ 0xff ∷ [], 9, text (0xef ∷ 0xbb ∷ 0xbf ∷ []))
    ∷ (0xfe ∷ 0xff ∷ 0x00 ∷ 0x4d ∷ 0x04 ∷ 0x30 ∷ 0x4e ∷ 0x8c ∷ 0xd8 ∷ 0x00 ∷ 0xdf ∷ 0x02 ∷ [], 10, text (0x4d ∷ 0xd0 ∷ 0xb0 ∷ 0xe4 ∷ 0xba ∷ 0x8c ∷ 0xf0 ∷ 0x90 ∷ 0x8c ∷ 0x82 ∷ []))
    ∷ (0xfe ∷ 0xff ∷ 0xd8 ∷ 0x00 ∷ 0xdc ∷ 0x00 ∷ [], 4, text (0xf0 ∷ 0x90 ∷ 0x80 ∷ 0x80 ∷ []))
    ∷ (0xff ∷ 0xfe ∷ 0xff ∷ 0xdb ∷ 0xff ∷ 0xdf ∷ [], 4, text (0xf4 ∷ 0x8f ∷ 0xbf ∷ 0xbf ∷ []))
    ∷ (0xfe ∷ 0xff ∷ 0xd8 ∷ 0x00 ∷ 0x3c ∷ [], 9, wrong 26 5)
    ∷ (0xff ∷ 0xfe ∷ 0x00 ∷ 0xdc ∷ [], 9, wrong 27 2)
    ∷ (0xfe ∷ 0xff ∷ 0x00 ∷ 0x61 ∷ 0xd8 ∷ 0x00 ∷ [], 9, wrong 27 4)
    ∷ (0xfe ∷ 0xff ∷ 0xd8 ∷ 0x00 ∷ 0xd8 ∷ 0x00 ∷ 0xdc ∷ 0x00 ∷ [], 9, wrong 27 2)
    ∷ (0xfe ∷ 0xff ∷ 0xdb ∷ 0xff ∷ 0xe0 ∷ 0x00 ∷ [], 9, wrong 27 2)
    ∷ (0xfe ∷ 0xff ∷ 0xd8 ∷ 0x00 ∷ 0xdc ∷ 0x00 ∷ 0xdc ∷ 0x00 ∷ [], 0, wrong 27 6)
    ∷ (0xff ∷ 0xfe ∷ 0x3c ∷ 0x00 ∷ 0x78 ∷ 0x00 ∷ 0x2f ∷ 0x00 ∷ 0x3e ∷ 0x00 ∷ [], 3, wrong 18 10)
    ∷ (0xff ∷ 0xfe ∷ 0x3c ∷ 0x00 ∷ 0x78 ∷ 0x00 ∷ 0x2f ∷ 0x00 ∷ 0x3e ∷ 0x00 ∷ [], 4, text (0x3c ∷ 0x78 ∷ 0x2f ∷ 0x3e ∷ []))
    ∷ []

pub worked : map (λ d. decoding d.0 d.1) documents ≡ map (λ d. d.2) documents
unfolding decoding ordered rest utf8
worked = refl

pub all_marked : map (λ d. marked d.0) documents ≡ replicate 16 true
all_marked = refl

-- nothing; a byte of a mark; UTF-8 with its own mark
pub unmarked : map marked ([] ∷ (0xfe ∷ []) ∷ (0xff ∷ []) ∷ (0xef ∷ 0xbb ∷ 0xbf ∷ 0x3c ∷ []) ∷ []) ≡ replicate 4 false
unmarked = refl

-- the limit: just so many decoded bytes are taken, and one more is 2, be there room or not
pub limit : (t : List ℕ) → length t ≡ 1048576 → fitting 1048576 1048576 (text t) ≡ text t
limit t e = rw e

pub beyond : (t : List ℕ) → length t ≡ 1048577 → fitting 1048576 0 (text t) ≡ wrong 2 1048576
beyond t e = rw e

-- table 3-4's scalar values, the first pair and the last
pub paired :
    map utf16 (0x4d ∷ 0x430 ∷ 0x4e8c ∷ 0x10302 ∷ 0x10000 ∷ 0x10ffff ∷ [])
    ≡ (0x4d ∷ []) ∷ (0x430 ∷ []) ∷ (0x4e8c ∷ []) ∷ (0xd800 ∷ 0xdf02 ∷ []) ∷ (0xd800 ∷ 0xdc00 ∷ []) ∷ (0xdbff ∷ 0xdfff ∷ []) ∷ []
unfolding utf16
paired = refl
