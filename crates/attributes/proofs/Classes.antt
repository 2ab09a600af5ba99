-- The classes of names.
use Prim.Native.Nat.{ℕ, ◌<◌}
use mathlib.Core.Path.{◌≡◌, refl, sym, subst, ◌∙◌}
use mathlib.Core.List.{List}
use mathlib.Core.Bool.{Bool, true, false}
use borrow.Author.Rules.{rules}
use borrow.Author.Tests.{eqb-true}
use native.Mathlib.Omega.{arith}
use lib.Dec.{eqb}
use Rattle.std.proofs.lemmas.Slice.Eq.{text_from_reads}
use Rattle.slices.specs.Bytes.{if, bytes, same}
use Rattle.slices.proofs.Runs.{same_equal, Differs, differing}
use Rattle.document.specs.Tags.{is_tp_type}
use Rattle.attributes.specs.Slots.{class_of}

-- a name is the key, or another
by_key : (P : List ℕ → Type 0) (n key : List ℕ) → P key → (same n key ≡ false → P n) → P n
by_key P n key p q = go (same n key) refl
  where
    go : (t : Bool) → same n key ≡ t → P n
    go true e = subst P (sym (same_equal n key e)) p
    go false e = q e

-- what the class of a name says of it
pub record Classed (n : List ℕ) : Type 0 where
  pub name : same n (bytes "name") ≡ eqb (class_of n) 0
  pub ty : same n (bytes "type") ≡ eqb (class_of n) 1
  pub value : same n (bytes "value") ≡ eqb (class_of n) 2
  pub access : same n (bytes "access") ≡ eqb (class_of n) 3
  pub direction : same n (bytes "direction") ≡ eqb (class_of n) 4
  pub suffix : same n (bytes "suffix") ≡ eqb (class_of n) 5
  pub tp : is_tp_type n ≡ eqb (class_of n) 6
  pub below : class_of n < 8

-- none of the six
module _ (n : List ℕ) (a : same n (bytes "name") ≡ false) (b : same n (bytes "type") ≡ false) (c : same n (bytes "value") ≡ false) (d : same n (bytes "access") ≡ false) (e : same n (bytes "direction") ≡ false) (f : same n (bytes "suffix") ≡ false) where
  other_class : (t : Bool) → is_tp_type n ≡ t → class_of n ≡ if t 6 7
  unfolding class_of
  other_class t p = rw (p, a, b, c, d, e, f)

  other_classed : (t : Bool) → is_tp_type n ≡ t → Classed n
  other_classed true p =
      let k = other_class true p in
      record { name = a ∙ rw k; ty = b ∙ rw k; value = c ∙ rw k; access = d ∙ rw k; direction = e ∙ rw k; suffix = f ∙ rw k; tp = p ∙ rw k; below = omega (arith, k) }
  other_classed false p =
      let k = other_class false p in
      record { name = a ∙ rw k; ty = b ∙ rw k; value = c ∙ rw k; access = d ∙ rw k; direction = e ∙ rw k; suffix = f ∙ rw k; tp = p ∙ rw k; below = omega (arith, k) }

pub classed : (n : List ℕ) → Classed n
unfolding class_of
classed n =
    by_key Classed n (bytes "name") (record { name = refl; ty = refl; value = refl; access = refl; direction = refl; suffix = refl; tp = refl; below = omega arith }) (λ a.
    by_key Classed n (bytes "type") (record { name = refl; ty = refl; value = refl; access = refl; direction = refl; suffix = refl; tp = refl; below = omega arith }) (λ b.
    by_key Classed n (bytes "value") (record { name = refl; ty = refl; value = refl; access = refl; direction = refl; suffix = refl; tp = refl; below = omega arith }) (λ c.
    by_key Classed n (bytes "access") (record { name = refl; ty = refl; value = refl; access = refl; direction = refl; suffix = refl; tp = refl; below = omega arith }) (λ d.
    by_key Classed n (bytes "direction") (record { name = refl; ty = refl; value = refl; access = refl; direction = refl; suffix = refl; tp = refl; below = omega arith }) (λ e.
    by_key Classed n (bytes "suffix") (record { name = refl; ty = refl; value = refl; access = refl; direction = refl; suffix = refl; tp = refl; below = omega arith }) (λ f.
    other_classed n a b c d e f (is_tp_type n) refl))))))

-- ---- the class of a name, by what it is and is not

module _ (n : List ℕ) {t : Bool} (p : t ≡ is_tp_type n) where
  pub class_tp : t ≡ true → 6 ≡ class_of n
  class_tp e = sym (eqb-true (class_of n) 6 (sym (classed n).tp ∙ sym p ∙ e))

  pub class_other : t ≡ false → Differs n (bytes "name") → Differs n (bytes "type") → Differs n (bytes "value") → Differs n (bytes "access") → Differs n (bytes "direction") → Differs n (bytes "suffix") → 7 ≡ class_of n
  class_other f a b c d e g = sym (other_class n a.is b.is c.is d.is e.is g.is false (sym p ∙ f))

module _ {n : List ℕ} where
  pub class_name : n ≡ bytes "name" → 0 ≡ class_of n
  unfolding class_of
  class_name e = rw e

  pub class_type : n ≡ bytes "type" → 1 ≡ class_of n
  unfolding class_of
  class_type e = rw e

  pub class_value : n ≡ bytes "value" → 2 ≡ class_of n
  unfolding class_of
  class_value e = rw e

  pub class_access : n ≡ bytes "access" → 3 ≡ class_of n
  unfolding class_of
  class_access e = rw e

  pub class_direction : n ≡ bytes "direction" → 4 ≡ class_of n
  unfolding class_of
  class_direction e = rw e

  pub class_suffix : n ≡ bytes "suffix" → 5 ≡ class_of n
  unfolding class_of
  class_suffix e = rw e

pub ruleset classes = (class_tp, class_name, class_type, class_value, class_access, class_direction, class_suffix, class_other, differing, text_from_reads, rules)
