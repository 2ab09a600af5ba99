-- The UTF-8 of a scalar value: it is one sequence, and how long it is.
use Prim.Native.Nat.{ℕ, suc, ◌+◌, ◌/◌, ◌%◌, ◌≤◌, ◌<◌}
use mathlib.Core.Path.{◌≡◌, refl, ap, ◌∙◌}
use mathlib.Core.List.{List, [], ◌∷◌}
use mathlib.Core.Bool.{Bool, true, false}
use borrow.Author.Tests.{lt-ltb, le-ltb}
use native.Mathlib.Omega.{arith}
use lib.Dec.{ltb}
use lib.ListN.{length}
use Rattle.slices.specs.Bytes.{if}
use Rattle.utf8.specs.WellFormed.{to, table, begins, sequence}
use Rattle.utf8.specs.Sequence.{taken}
use Rattle.utf8.specs.Encoding.{utf8}
use Rattle.utf8.proofs.Sequences.{Char, Only, rest, only, within_true, below}
use Rattle.utf8.proofs.Texts.{ascii_char}

-- a first byte that picks a row, and what the row asks after it
row_char : (n a : ℕ) (l : List ℕ) → Only n table a → begins (rest n table) l ≡ true → length (rest n table) ≡ length l → Char (a ∷ l)
unfolding sequence taken
row_char n a l o b e = record { size = only n table a l o ∙ rw b (ap suc e); some = omega arith }

follows : (b : ℕ) → 0x80 ≤ b → b ≤ 0xbf → begins (to 0x80 0xbf ∷ []) (b ∷ []) ≡ true
follows b h k = rw (within_true (to 0x80 0xbf) b h k)

row_two : (a b : ℕ) → 0xc2 ≤ a → a ≤ 0xdf → 0x80 ≤ b → b ≤ 0xbf → Char (a ∷ b ∷ [])
row_two a b h k l m = row_char 1 a (b ∷ []) (omega arith) (follows b l m) refl

module _ (a b c : ℕ) (l : 0x80 ≤ b) (m : b ≤ 0xbf) (i : 0x80 ≤ c) (j : c ≤ 0xbf) where
  two_more : (x y : ℕ) → x ≤ b → b ≤ y → begins (to x y ∷ to 0x80 0xbf ∷ []) (b ∷ c ∷ []) ≡ true
  two_more x y h k = rw (within_true (to x y) b h k) (follows c i j)

  row_three : 0xe0 ≤ a → a ≤ 0xef → (a ≡ 0xe0 → 0xa0 ≤ b) → (a ≡ 0xed → b ≤ 0x9f) → Char (a ∷ b ∷ c ∷ [])
  row_three h k e0 ed =
      below a 0xe1 (λ g. row_char 2 a (b ∷ c ∷ []) (omega arith) (two_more 0xa0 0xbf (e0 (omega arith)) m) refl)
      (λ g₁. below a 0xed (λ g. row_char 3 a (b ∷ c ∷ []) (omega arith) (two_more 0x80 0xbf l m) refl)
      (λ g₂. below a 0xee (λ g. row_char 4 a (b ∷ c ∷ []) (omega arith) (two_more 0x80 0x9f l (ed (omega arith))) refl)
      (λ g. row_char 5 a (b ∷ c ∷ []) (omega arith) (two_more 0x80 0xbf l m) refl)))

  module _ (d : ℕ) (p : 0x80 ≤ d) (q : d ≤ 0xbf) where
    three_more : (x y : ℕ) → x ≤ b → b ≤ y → begins (to x y ∷ to 0x80 0xbf ∷ to 0x80 0xbf ∷ []) (b ∷ c ∷ d ∷ []) ≡ true
    three_more x y h k = rw (within_true (to x y) b h k, within_true (to 0x80 0xbf) c i j) (follows d p q)

    row_four : 0xf0 ≤ a → a ≤ 0xf4 → (a ≡ 0xf0 → 0x90 ≤ b) → (a ≡ 0xf4 → b ≤ 0x8f) → Char (a ∷ b ∷ c ∷ d ∷ [])
    row_four h k f0 f4 =
        below a 0xf1 (λ g. row_char 6 a (b ∷ c ∷ d ∷ []) (omega arith) (three_more 0x90 0xbf (f0 (omega arith)) m) refl)
        (λ g₁. below a 0xf4 (λ g. row_char 7 a (b ∷ c ∷ d ∷ []) (omega arith) (three_more 0x80 0xbf l m) refl)
        (λ g. row_char 8 a (b ∷ c ∷ d ∷ []) (omega arith) (three_more 0x80 0x8f l (f4 (omega arith))) refl))

-- a scalar value: no surrogate, and below the first code that is none
pub record Scalar (c : ℕ) : Type 0 where
  pub small : c < 0x110000
  pub apart : 0xd800 ≤ c → c < 0xe000 → ⊥

-- the UTF-8 of a scalar value is one sequence
pub utf8_char : (c : ℕ) → Scalar c → Char (utf8 c)
unfolding utf8
utf8_char c s =
    below c 0x80 (λ h. rw (lt-ltb c 0x80 h) (ascii_char h))
    (λ h₁. below c 0x800 (λ h. rw (le-ltb c 0x80 h₁, lt-ltb c 0x800 h) (row_two (0xc0 + c / 64) (0x80 + c % 64) (omega arith) (omega arith) (omega arith) (omega arith)))
    (λ h₂. below c 0x10000
    (λ h.
    rw (le-ltb c 0x80 h₁, le-ltb c 0x800 h₂, lt-ltb c 0x10000 h)
    (row_three (0xe0 + c / 4096) (0x80 + c / 64 % 64) (0x80 + c % 64) (omega arith) (omega arith) (omega arith) (omega arith) (omega arith) (omega arith) (λ e. omega arith) (λ e. below_surrogates e)))
    (λ h.
    rw (le-ltb c 0x80 h₁, le-ltb c 0x800 h₂, le-ltb c 0x10000 h)
    (row_four (0xf0 + c / 262144) (0x80 + c / 4096 % 64) (0x80 + c / 64 % 64) (omega arith) (omega arith) (omega arith) (omega arith) (0x80 + c % 64) (omega arith) (omega arith) (omega arith) (omega (arith, s.small)) (λ e. omega arith) (λ e. omega (arith, s.small))))))
  where
    below_surrogates : 0xe0 + c / 4096 ≡ 0xed → 0x80 + c / 64 % 64 ≤ 0x9f
    below_surrogates e =
        let n : 0xd800 ≤ c → ⊥ = λ k. s.apart k (omega arith) in
        omega arith

-- ---- how long it is

short_if : (n : ℕ) (t : Bool) (x y : List ℕ) → length x ≤ n → length y ≤ n → length (if t x y) ≤ n
short_if n true x y h l = h
short_if n false x y h l = l

pub utf8_short : (c : ℕ) → length (utf8 c) ≤ 4
unfolding utf8
utf8_short c =
    short_if 4 (ltb c 0x80) _ _ (omega arith) (short_if 4 (ltb c 0x800) _ _ (omega arith) (short_if 4 (ltb c 0x10000) _ _ (omega arith) (omega arith)))

-- what one code unit of 16 bits says takes at most three bytes
pub unit_short : (u : ℕ) → u < 0x10000 → length (utf8 u) ≤ 3
unfolding utf8
unit_short u h = rw (lt-ltb u 0x10000 h) (short_if 3 (ltb u 0x80) _ _ (omega arith) (short_if 3 (ltb u 0x800) _ _ (omega arith) (omega arith)))
