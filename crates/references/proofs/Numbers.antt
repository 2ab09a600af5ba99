-- Digits, the number that they write, and the characters that have a number.
use Prim.Native.Nat.{ℕ, suc, ◌+◌, ◌-◌, ◌*◌, ◌≤◌, ◌<◌}
use mathlib.Core.Path.{◌≡◌, refl, sym, ◌∙◌}
use mathlib.Core.List.{List, [], ◌∷◌}
use mathlib.Core.Bool.{Bool, true, false, ◌&&◌, ◌||◌, or-false}
use borrow.Author.Rules.{rules}
use borrow.Author.Tests.{le-leb, lt-leb, ne_eqb}
use native.Mathlib.Nat.{mul-le-mul, mul-one}
use native.Mathlib.Numerals.{add-one}
use native.Mathlib.Omega.{arith}
use mir.Syntax.{w32}
use mir.Val.{Fits}
use lib.Dec.{eqb, leb}
use lib.ListN.{length, take, drop, get_or, length-drop, drop_of_length-le}
use lib.Seq.{drop-cons, take_all}
use Rattle.std.proofs.Common.{Ok, Err}
use Rattle.std.specs.Prelude.{min}
use Rattle.std.proofs.Math.Nat.{min-eq_left, min-eq_right, min-le_right}
use Rattle.slices.specs.Bytes.{if, all, digit}
use Rattle.utf8.proofs.Sequences.{below}
use Rattle.references.specs.Characters.{xml_char}
use Rattle.references.specs.Unescape.{hex_digit, digit_value, number, fault, of_code, of_digits}
use Rattle.references.specs.Digits.{digit_in, Base}
use Rattle.references.specs.Outcome.{reference_of}

-- ---- characters

module _ (c : ℕ) where
  pub char_tab : c ≡ 9 → true ≡ xml_char c
  unfolding xml_char
  char_tab e = rw e

  pub char_feed : c ≡ 10 → true ≡ xml_char c
  unfolding xml_char
  char_feed e = rw e

  pub char_control : c < 0x20 → (c ≡ 9 → ⊥) → (c ≡ 10 → ⊥) → eqb c 13 ≡ xml_char c
  unfolding xml_char
  char_control h e f = simp (ne_eqb c 9 e, ne_eqb c 10 f, lt-leb 0x20 c h, lt-leb 0xe000 c (omega arith), lt-leb 0x10000 c (omega arith), or-false)

  module _ (h : 0x20 ≤ c) where
    -- past the controls
    past_controls : xml_char c ≡ leb c 0xd7ff || (leb 0xe000 c && leb c 0xfffd) || (leb 0x10000 c && leb c 0x10ffff)
    unfolding xml_char
    past_controls = simp (ne_eqb c 9 (omega arith), ne_eqb c 10 (omega arith), ne_eqb c 13 (omega arith), le-leb 0x20 c h)

    pub char_low : c ≤ 0xd7ff → true ≡ xml_char c
    char_low l = sym (past_controls ∙ simp (le-leb c 0xd7ff l))

    module _ (l : 0xd7ff < c) where
      pub char_surrogate : c < 0xe000 → false ≡ xml_char c
      char_surrogate g = sym (past_controls ∙ simp (lt-leb c 0xd7ff l, lt-leb 0xe000 c g, lt-leb 0x10000 c (omega arith)))

      module _ (k : 0xe000 ≤ c) where
        pub char_middle : c ≤ 0xfffd → true ≡ xml_char c
        char_middle g = sym (past_controls ∙ simp (lt-leb c 0xd7ff l, le-leb 0xe000 c k, le-leb c 0xfffd g))

        module _ (m : 0xfffd < c) where
          pub char_last : c < 0x10000 → false ≡ xml_char c
          char_last g = sym (past_controls ∙ simp (lt-leb c 0xd7ff l, lt-leb c 0xfffd m, le-leb 0xe000 c k, lt-leb 0x10000 c g))

          pub char_high : 0x10000 ≤ c → leb c 0x10ffff ≡ xml_char c
          char_high g = sym (past_controls ∙ simp (lt-leb c 0xd7ff l, lt-leb c 0xfffd m, le-leb 0xe000 c k, le-leb 0x10000 c g))

-- a number past the last character has none
no_char : (c : ℕ) → 0x110000 ≤ c → xml_char c ≡ false
no_char c h = sym (char_high c (omega arith) (omega arith) (omega arith) (omega arith) (omega arith)) ∙ lt-leb c 0x10ffff (omega arith)

pub never : (t : Bool) → t ≡ false → t ≡ true → ⊥
never t e f = let z : ◌≡◌ {A = ℕ} 0 1 = cc in omega arith

pub char_small : (c : ℕ) → xml_char c ≡ true → c < 1114112
char_small c h = let n : 1114112 ≤ c → ⊥ = λ l. never (xml_char c) (no_char c l) h in omega arith

-- ---- digits

module _ (b : ℕ) where
  pub decimal_above : 48 ≤ b → leb b 57 ≡ digit b
  decimal_above h = rw (le-leb 48 b h)

  module _ {t : Bool} (e : t ≡ digit b) (f : t ≡ false) where
    pub hex_lower : 70 < b → 97 ≤ b → leb b 102 ≡ hex_digit b
    hex_lower h l = rw (sym e ∙ f, le-leb 65 b (omega arith), lt-leb b 70 h, le-leb 97 b l)

  -- the digits of any base are among those of 16
  any_hex : (base : ℕ) → digit_in base b ≡ true → hex_digit b ≡ true
  any_hex base h = go (eqb base 16) h
    where
      go : (t : Bool) → if t (hex_digit b) (digit b) ≡ true → hex_digit b ≡ true
      go true e = e
      go false e = rw e

  module _ (h : hex_digit b ≡ true) where
    no_digit : false ≡ hex_digit b → ⊥
    no_digit e = never (hex_digit b) (sym e) h

    module _ (k : 57 < b) where
      no_decimal : false ≡ digit b
      no_decimal = sym (lt-leb b 57 k) ∙ decimal_above (omega arith)

    most_digit : b ≤ 102
    most_digit =
        let n : 102 < b → ⊥ = λ l. no_digit (sym (lt-leb b 102 l) ∙ hex_lower (no_decimal (omega arith)) refl (omega arith) (omega arith)) in
        omega arith

    pub value_small : {d : ℕ} → d ≡ digit_value b → d < 256
    value_small {d} e = rw e (go (leb b 57) (leb b 70))
      where
        go : (s t : Bool) → if s (b - 48) (if t (b - 55) (b - 87)) < 256
        go true t = omega (arith, most_digit)
        go false true = omega (arith, most_digit)
        go false false = omega (arith, most_digit)

-- ---- the number

module _ (n base d : ℕ) where
  product_small : n ≤ 0x110000 → Base base → n * base ≤ 0x110000 * 16
  product_small h b = mul-le-mul {n₂ = 0x110000} h b.most

  pub product_fits : n ≤ 0x110000 → Base base → Fits w32 (n * base)
  product_fits h b = record { fits = omega (arith, product_small h b) }

  pub sum_fits : n ≤ 0x110000 → Base base → d < 256 → Fits w32 (n * base + d)
  sum_fits h b l = record { fits = omega (arith, product_small h b) }

number_grows : (base n : ℕ) (l : List ℕ) → 1 ≤ base → n ≤ number base n l
number_grows base n [] h = omega arith
number_grows base n (b ∷ l) h =
    let i = number_grows base (n * base + digit_value b) l h in
    let m : n * 1 ≤ n * base = mul-le-mul {n₂ = n} (omega arith) h in
    omega (arith, mul-one n)

no_code : (base n : ℕ) (l : List ℕ) → 1 ≤ base → 0x110000 ≤ n → of_code (number base n l) ≡ fault 11
no_code base n l h g = rw (no_char (number base n l) (omega (arith, number_grows base n l h)))

-- it may stay at 0x110000
min_code : (base m : ℕ) (l : List ℕ) → 1 ≤ base → of_code (number base m l) ≡ of_code (number base (min m 0x110000) l)
min_code base m l h =
    below m 0x110000 (λ k. rw (min-eq_left {n = m} {m = 0x110000} (omega (arith, k))))
    (λ k. rw (min-eq_right {m = m} k) (no_code base m l h k ∙ sym (no_code base 0x110000 l h (omega arith))))

-- what is asked of digits is what is left of them after the first i, with a number so far
pub record Numbering (base : ℕ) (asked ds : List ℕ) (i n : ℕ) : Type 0 where
  pub left : of_digits base (digit_in base) asked ≡ if (all (digit_in base) (drop i ds)) (of_code (number base n (drop i ds))) (fault 11)
  pub small : n ≤ 0x110000
  pub of_base : Base base

module _ (base : ℕ) (s : List ℕ) (from : ℕ) where
  pub number_none : length s ≤ from → reference_of (Err 11) ≡ of_digits base (digit_in base) (drop from s)
  number_none h = rw (drop_of_length-le s h)

  -- the rest of the bytes, as the code lends it
  pub number_begins : Base base → from < length s → Numbering base (drop from s) (take (length s - from) (drop from s)) 0 0
  number_begins b h = record {
    left = rw (take_all (length s - from) (drop from s) (omega (arith, length-drop from s)), drop-cons s from 0 h);
    small = omega arith;
    of_base = b;
  }

module _ {base : ℕ} {asked ds : List ℕ} {i n : ℕ} (g : Numbering base asked ds i n) where
  pub number_ends : length ds ≤ i → {t : Bool} → t ≡ xml_char n → t ≡ true → reference_of (Ok n) ≡ of_digits base (digit_in base) asked
  number_ends h e f = sym (g.left ∙ rw (drop_of_length-le ds h, sym e ∙ f))

  pub number_fails : length ds ≤ i → {t : Bool} → t ≡ xml_char n → t ≡ false → reference_of (Err 11) ≡ of_digits base (digit_in base) asked
  number_fails h e f = sym (g.left ∙ rw (drop_of_length-le ds h, sym e ∙ f))

  module _ (h : i < length ds) {t : Bool} (e : t ≡ digit_in base (get_or ds i 0)) where
    pub number_stops : t ≡ false → reference_of (Err 11) ≡ of_digits base (digit_in base) asked
    number_stops f = sym (g.left ∙ rw (drop-cons ds i 0 h, sym e ∙ f))

    pub number_digit : t ≡ true → hex_digit (get_or ds i 0) ≡ true
    number_digit f = any_hex (get_or ds i 0) base (sym e ∙ f)

    pub number_small : {d : ℕ} → t ≡ true → d ≡ digit_value (get_or ds i 0) → d < 256
    number_small f = value_small (get_or ds i 0) (number_digit f)

    pub number_more : {d r : ℕ} → t ≡ true → d ≡ digit_value (get_or ds i 0) → r ≡ min (n * base + d) 0x110000 → Numbering base asked ds (i + 1) r
    number_more {d} {r} f v q = record {
      left =
          g.left
          ∙ rw (drop-cons ds i 0 h, sym e ∙ f, add-one, q, v, min_code base (n * base + digit_value (get_or ds i 0)) (drop (suc i) ds) g.of_base.least);
      small = rw q (min-le_right (n * base + d) 0x110000);
      of_base = g.of_base;
    }

pub ruleset numbers = (number_none, number_begins, number_ends, number_fails, number_stops, number_digit, number_small, number_more, product_fits, sum_fits, rules)
