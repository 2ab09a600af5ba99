-- Tests on the text that a value shows: in the document, or in a buffer of 256 bytes; a longer text fails each of them.
use Prim.Native.Nat.{ℕ, ◌≤◌, ◌<◌}
use mathlib.Core.Path.{◌≡◌, refl, sym, ap, ◌∙◌}
use mathlib.Core.Logic.{inl, inr, ⊎_elim}
use mathlib.Core.List.{List, [], ◌∷◌}
use mathlib.Core.Bool.{Bool, true, false, and-false}
use borrow.Author.Rules.{rules}
use borrow.Author.Tests.{lt-leb}
use native.Mathlib.Omega.{arith}
use Rattle.std.specs.Prelude.{min}
use Rattle.std.proofs.lemmas.Bool.{ltb-true, ltb-false}
use Rattle.std.proofs.lemmas.Slice.Eq.{text_from_reads}
use Rattle.std.proofs.Math.Dec.{ltb}
use Rattle.std.proofs.Math.Nat.{min-eq_left, min-eq_right}
use lib.ListN.{length, take}
use lib.Seq.{length-take-le, ext_get_or, get_or-take}
use Rattle.slices.specs.Bytes.{bytes, same}
use Rattle.slices.proofs.Runs.{same_short, Differs, differing}
use Rattle.tables.specs.Table.{Rep}
use Rattle.tables.proofs.Tables.{whole_one, empty_stands}
use Rattle.names.specs.Names.{interface_name, member_name, property_name}
use Rattle.names.specs.Signature.{signature, basic_code, basic_signature}
use Rattle.answers.specs.Text.{text}
use Rattle.references.specs.Outcome.{Shows}
use Rattle.references.proofs.Shapes.{unescape_plain}
use Rattle.document.specs.Tags.{Shown}
use Rattle.document.specs.Elements.{some_signature, access_of, direction_of}
use Rattle.document.specs.Outcome.{Held, Raw}
use Rattle.document.specs.declared.Form.TheVariants.{Plain}
use Rattle.document.specs.declared.Value.{Value}
use Rattle.document.proofs.Held.{held_plain, held_raw, held_puts}
use Rattle.shown.specs.Outcome.{Changed, Tests, Short}

stands_read : {t xs : List ℕ} {n : ℕ} → Rep 1 t n xs → n ≤ length t → take n t ≡ xs
stands_read {t} {xs} {n} z h =
    let c : length (take n t) ≡ n = length-take-le n t h in
    ext_get_or 0 (take n t) xs (omega (arith, z.many))
    (λ i b. get_or-take n t i 0 (omega arith) ∙ z.holds i (omega (arith, z.many)) (rw whole_one (omega arith)))

module _ {doc : List ℕ} {v : Value} {r t t' : List ℕ} {n : ℕ} (w : Raw doc v r) (g : Shows r 0 t t' n) (m : length t ≡ 256) (k : length t' ≡ length t) where
  stands_for : (s : Shown) → Held doc v s → Rep 1 t' n s.value
  stands_for s h = (held_puts h w g).stands [] (empty_stands 1 t)

  -- the count of the bytes, or 256 where there are more than 255
  pub changed_is : {q : ℕ} → q ≡ min n 256 → Changed doc v t' q
  changed_is {q} e = go (ltb 255 n) refl
    where
      go : (b : Bool) → ltb 255 n ≡ b → Changed doc v t' q
      go true l =
          let z : 255 < n = ltb-true 255 n l in
          let c : q ≡ 256 = e ∙ min-eq_right (omega (arith, z)) in
          record { inside = omega (arith, c); is = λ s h. inr ((omega (arith, c)), (omega (arith, z, (stands_for s h).many))) }
      go false l =
          let z : n ≤ 255 = ltb-false 255 n l in
          let c : q ≡ n = e ∙ min-eq_left (omega (arith, z)) in
          record { inside = omega (arith, c, z); is = λ s h. inl (rw c (stands_read (stands_for s h) (omega (arith, z)))) }

module _ {A : Type 0} {p : List ℕ → A} {doc : List ℕ} {v : Value} {r : A} where
  pub tests_plain : {x : List ℕ} → v.form ≡ Plain → Raw doc v x → r ≡ p x → Tests p doc v r
  tests_plain k w e = record {
    is = λ s h.
        let q : text s.attr.raw ≡ text s.value = sym (unescape_plain s.attr.raw (held_plain h k)) ∙ h.shows in
        let y : s.attr.raw ≡ s.value = cc in
        e ∙ ap p (held_raw h w ∙ y);
  }

  pub tests_changed : {t : List ℕ} {n : ℕ} {d : A} → Short p d → Changed doc v t n → r ≡ p (take n t) → Tests p doc v r
  tests_changed {t} {n} q g e = record {
    is = λ s h.
        ⊎_elim
        (λ f. e ∙ ap p f)
        (λ f. e ∙ q.long (take n t) (omega (arith, f.0, length-take-le n t g.inside)) ∙ sym (q.long s.value f.1))
        (g.is s h);
  }

-- ---- what is longer than 255 bytes is none of these

pub short_interface : Short interface_name false
unfolding interface_name
short_interface = record { long = λ s h. rw (lt-leb (length s) 255 h, and-false) }

pub short_member : Short member_name false
unfolding member_name
short_member = record { long = λ s h. rw (lt-leb (length s) 255 h, and-false) }

pub short_property : Short property_name false
short_property = record { long = λ s h. rw (lt-leb (length s) 255 h, and-false) }

pub short_signature : Short signature false
unfolding signature
short_signature = record { long = λ s h. rw (lt-leb (length s) 255 h, and-false) }

pub short_some : Short some_signature false
short_some = record { long = λ s h. rw (short_signature.long s h, and-false) }

pub short_basic : Short basic_signature false
short_basic = record { long = go }
  where
    go : (s : List ℕ) → 255 < length s → basic_signature s ≡ false
    go [] h = refl
    go (b ∷ []) h = absurd (omega arith)
    go (b ∷ c ∷ l) h = and-false (basic_code b)

not_same : (key s : List ℕ) → length key ≤ 255 → 255 < length s → same s key ≡ false
not_same key s k h = sym (same_short s key (λ e. omega arith))

pub short_access : Short access_of 0
short_access = record {
  long = λ s h.
      rw (not_same (bytes "read") s (omega arith) h, not_same (bytes "write") s (omega arith) h, not_same (bytes "readwrite") s (omega arith) h);
}

pub short_direction : Short direction_of 0
short_direction = record { long = λ s h. rw (not_same (bytes "in") s (omega arith) h, not_same (bytes "out") s (omega arith) h) }

-- ---- the tests on a text

pub some_empty : (s : List ℕ) → length s ≡ 0 → false ≡ some_signature s
some_empty [] h = refl
some_empty (b ∷ l) h = absurd (omega arith)

pub some_there : (s : List ℕ) {r : Bool} → (length s ≡ 0 → ⊥) → r ≡ signature s → r ≡ some_signature s
some_there [] h e = absurd (h refl)
some_there (b ∷ l) h e = e

-- an access and a direction, by what a text is and is not
module _ {s : List ℕ} where
  pub access_read : s ≡ bytes "read" → 1 ≡ access_of s
  access_read e = rw e

  pub access_write : s ≡ bytes "write" → 2 ≡ access_of s
  access_write e = rw e

  pub access_both : s ≡ bytes "readwrite" → 3 ≡ access_of s
  access_both e = rw e

  pub access_none : Differs s (bytes "read") → Differs s (bytes "write") → Differs s (bytes "readwrite") → 0 ≡ access_of s
  access_none a b c = rw (a.is, b.is, c.is)

  pub direction_in : s ≡ bytes "in" → 1 ≡ direction_of s
  direction_in e = rw e

  pub direction_out : s ≡ bytes "out" → 2 ≡ direction_of s
  direction_out e = rw e

  pub direction_none : Differs s (bytes "in") → Differs s (bytes "out") → 0 ≡ direction_of s
  direction_none a b = rw (a.is, b.is)

-- what answers every need of the tests on a text
pub ruleset texts = (some_empty, some_there, access_read, access_write, access_both, access_none, direction_in, direction_out, direction_none, differing, text_from_reads, rules)
