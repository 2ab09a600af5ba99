-- What stands between `&` and `;`.
use Prim.Native.Nat.{ℕ, ◌≤◌, ◌<◌}
use Prim.Native.String as string
use mathlib.Core.Path.{◌≡◌, refl, ap, ◌∙◌}
use mathlib.Core.List.{List, [], ◌∷◌}
use mathlib.Core.Bool.{Bool, true, false, not, ◌&&◌, ◌||◌}
use borrow.Author.Rules.{rules}
use borrow.Author.Tests.{ne_eqb}
use native.Mathlib.Omega.{arith}
use lib.Dec.{eqb}
use lib.ListN.{length, drop, get_or}
use Rattle.std.proofs.Common.{Ok, Err}
use Rattle.std.proofs.lemmas.Slice.Eq.{text_from_reads}
use Rattle.slices.specs.Bytes.{if, bytes, all, empty, same, digit}
use Rattle.slices.proofs.Runs.{same_equal, Differs, differing}
use Rattle.references.specs.Characters.{xml_char}
use Rattle.references.specs.Unescape.{Reference, character, fault, hex_digit, number, of_code, of_digits, of_number, char_reference, reference}
use Rattle.references.specs.Outcome.{reference_of}
use Rattle.references.proofs.Numbers.{char_small}

-- a `#` begins no name of an entity
pub names_number : (s : List ℕ) {x : Reference} → 0 < length s → get_or s 0 0 ≡ 35 → x ≡ of_number (drop 1 s) → x ≡ reference s
unfolding reference
names_number [] h e k = absurd (omega arith)
names_number (b ∷ l) h e k = k ∙ rw e

pub names_amp : {s : List ℕ} → s ≡ bytes "amp" → reference_of (Ok 38) ≡ reference s
unfolding reference
names_amp e = rw e

pub names_lt : {s : List ℕ} → s ≡ bytes "lt" → reference_of (Ok 60) ≡ reference s
unfolding reference
names_lt e = rw e

pub names_gt : {s : List ℕ} → s ≡ bytes "gt" → reference_of (Ok 62) ≡ reference s
unfolding reference
names_gt e = rw e

pub names_quot : {s : List ℕ} → s ≡ bytes "quot" → reference_of (Ok 34) ≡ reference s
unfolding reference
names_quot e = rw e

pub names_apos : {s : List ℕ} → s ≡ bytes "apos" → reference_of (Ok 39) ≡ reference s
unfolding reference
names_apos e = rw e

-- it begins with no `#`
pub record Unnumbered (s : List ℕ) : Type 0 where
  pub is : fault 10 ≡ char_reference s

pub unnumbered_empty : (s : List ℕ) → length s < 1 → Unnumbered s
unnumbered_empty [] h = record { is = refl }
unnumbered_empty (b ∷ l) h = absurd (omega arith)

pub unnumbered_first : (s : List ℕ) → (get_or s 0 0 ≡ 35 → ⊥) → Unnumbered s
unnumbered_first [] h = record { is = refl }
unnumbered_first (b ∷ l) h = record { is = rw (ne_eqb b 35 h) }

pub names_none : {s : List ℕ} → Unnumbered s → Differs s (bytes "amp") → Differs s (bytes "lt") → Differs s (bytes "gt") → Differs s (bytes "quot") → Differs s (bytes "apos") → reference_of (Err 10) ≡ reference s
unfolding reference
names_none u a b c d e = u.is ∙ rw (a.is, b.is, c.is, d.is, e.is)

pub ruleset entities = (names_number, names_amp, names_lt, names_gt, names_quot, names_apos, names_none, unnumbered_empty, unnumbered_first, differing, text_from_reads, rules)

-- ---- a reference to a character has two bytes at least, and the character a code

pub record Good (e : List ℕ) (c : ℕ) : Type 0 where
  pub long : 2 ≤ length e
  pub small : c < 1114112

no_fault : {P : Type 0} (n c : ℕ) → fault n ≡ character c → P
no_fault n c e = let z : ◌≡◌ {A = ℕ} 0 1 = cc in absurd (omega arith)

-- a test that passes leads to the character, or the rest does
either : (P : Type 0) (t : Bool) (x y : Reference) (c : ℕ) → (t ≡ true → x ≡ character c → P) → (y ≡ character c → P) → if t x y ≡ character c → P
either P true x y c f g e = f refl e
either P false x y c f g e = g e

code_char : (n c : ℕ) → of_code n ≡ character c → xml_char c ≡ true
code_char n c = either (xml_char c ≡ true) (xml_char n) (character n) (fault 11) c (λ t e. let q : n ≡ c = cc in rw q at t) (no_fault 11 c)

digits_char : (base : ℕ) (p : ℕ → Bool) (ds : List ℕ) (c : ℕ) → of_digits base p ds ≡ character c → xml_char c ≡ true
digits_char base p ds c =
    either (xml_char c ≡ true) (not (empty ds) && all p ds) (of_code (number base 0 ds)) (fault 11) c (λ t. code_char (number base 0 ds) c) (no_fault 11 c)

-- the character of a number is one of XML's
char_good : (e : List ℕ) (c : ℕ) → char_reference e ≡ character c → (2 ≤ length e) × (xml_char c ≡ true)
char_good [] c h = no_fault 10 c h
char_good (b ∷ []) c h =
    either ((2 ≤ 1) × (xml_char c ≡ true)) (eqb b 35) (fault 11) (fault 10) c (λ t. no_fault 11 c) (no_fault 10 c) h
char_good (b ∷ d ∷ l) c h = (
  omega arith,
  either (xml_char c ≡ true) (eqb b 35) (of_number (d ∷ l)) (fault 10) c
      (λ t. either (xml_char c ≡ true) (eqb d 120 || eqb d 88) (of_digits 16 hex_digit l) (of_digits 10 digit (d ∷ l)) c (λ u. digits_char 16 hex_digit l c) (digits_char 10 digit (d ∷ l) c))
      (no_fault 10 c) h,
)

pub reference_good : (e : List ℕ) (c : ℕ) → reference e ≡ character c → (2 ≤ length e) × (xml_char c ≡ true)
unfolding reference xml_char
reference_good e c =
    named "amp" 38 (omega arith) refl (named "lt" 60 (omega arith) refl (named "gt" 62 (omega arith) refl (named "quot" 34 (omega arith) refl (named "apos" 39 (omega arith) refl (char_good e c)))))
  where
    named : (s : string.String) (n : ℕ) → 2 ≤ length (bytes s) → xml_char n ≡ true → {y : Reference} → (y ≡ character c → (2 ≤ length e) × (xml_char c ≡ true)) → if (same e (bytes s)) (character n) y ≡ character c → (2 ≤ length e) × (xml_char c ≡ true)
    named s n h g {y} =
        either ((2 ≤ length e) × (xml_char c ≡ true)) (same e (bytes s)) (character n) y c
        (λ t q. let i : n ≡ c = cc in (omega (arith, ap length (same_equal e (bytes s) t)), rw i at g))

pub good : (e : List ℕ) (c : ℕ) → reference e ≡ character c → Good e c
good e c h = let g = reference_good e c h in record { long = g.0; small = char_small c g.1 }
