-- The text of a row: no longer than the texts of all attributes of its tag together; and what a start tag comes to.
use Prim.Native.Nat.{ℕ, ◌+◌, ◌≤◌, ◌<◌}
use mathlib.Core.Path.{◌≡◌, refl, ap}
use mathlib.Core.List.{List, [], ◌∷◌}
use mathlib.Core.Option.{Option, none, some}
use mathlib.Core.Bool.{Bool, true, false}
use native.Mathlib.Omega.{arith}
use lib.ListN.{length, length-append}
use Rattle.slices.specs.Bytes.{if, all, same}
use Rattle.slices.proofs.Runs.{same_equal}
use Rattle.references.specs.Unescape.{plain}
use Rattle.document.specs.Tags.{Shown, lookup, is_tp_type, tp_type}
use Rattle.document.specs.Tokens.{Tag}
use Rattle.document.specs.Rows.{text_of, row_text}
use Rattle.document.specs.Elements.{attr, among, Opened, opens, refuses, kept, row, opens_as}
use Rattle.document.specs.Outcome.{whole}
use Rattle.document.specs.declared.Refusal.{Refusal}
use Rattle.document.proofs.Tests.{either, among_all}
use Rattle.document.proofs.Opens.{From, any_way, Refuses, lacks, at_name, at-end}
use Rattle.document.specs.Refusals.{faults}
use Rattle.document.proofs.Attributes.{Met, text_total}
use Rattle.document.proofs.Nexts.{Starts}

-- how long the text is that a value shows
abbrev size : Option Shown → ℕ
size none = 0
size (some s) = length s.value

text_size : (o : Option Shown) → length (text_of (kept whole o)) ≤ size o
text_size none = omega arith
text_size (some s) = either (λ (l : List ℕ). length l ≤ length s.value) (all plain s.attr.raw) (λ t. omega arith) (λ t. omega arith)

row_size : (t : Tag) (k p : ℕ) (n v tp : Option Shown) (w : ℕ) → length (row_text (row whole t k p n v tp w)) ≤ size n + size v + size tp
row_size t k p n v tp w =
    rw (length-append, length-append) (omega (arith, text_size n, text_size v, text_size tp))

-- ---- attributes of different names are different attributes

-- of a value that is there or not, before which others stand
module _ (s : Shown) (o p q : Option Shown) (m : ℕ) (i : size o + size p + size q ≤ m) where
  one_more : (x y z : Bool) → (x ≡ true → y ≡ true → ⊥) → (x ≡ true → z ≡ true → ⊥) → (y ≡ true → z ≡ true → ⊥) → size (if x (some s) o) + size (if y (some s) p) + size (if z (some s) q) ≤ length s.value + m
  one_more true true z f g h = absurd (f refl refl)
  one_more true false true f g h = absurd (g refl refl)
  one_more false true true f g h = absurd (h refl refl)
  one_more true false false f g h = omega arith
  one_more false true false f g h = omega arith
  one_more false false true f g h = omega arith
  one_more false false false f g h = omega arith

module _ (j k : List ℕ) (a : same j k ≡ false) (b : is_tp_type j ≡ false) (c : is_tp_type k ≡ false) where
  apart : (p : List ℕ → Bool) (key n : List ℕ) → p key ≡ false → same n key ≡ true → p n ≡ true → ⊥
  apart p key n f e g =
      let t : n ≡ key = same_equal n key e in
      let u : p n ≡ p key = ap p t in
      let z : ◌≡◌ {A = ℕ} 0 1 = cc in
      omega arith

  three_sizes : (xs : List Shown) → size (lookup j xs) + size (lookup k xs) + size (tp_type xs) ≤ text_total xs
  three_sizes [] = omega arith
  three_sizes (s ∷ xs) =
      let n = s.attr.name in
      one_more s (lookup j xs) (lookup k xs) (tp_type xs) (text_total xs) (three_sizes xs) (same n j) (same n k) (is_tp_type n)
      (apart (λ m. same m k) j n a)
      (apart is_tp_type j n b)
      (apart is_tp_type k n c)

-- ---- what a start tag comes to

from_size : (a o : Option Shown) → From a o → size o ≤ size a
from_size a o f = rw f.1 (either (λ (x : Option Shown). size x ≤ size a) f.0 (λ t. omega arith) (λ t. omega arith))

module _ {from top : ℕ} (t : Tag) {q : ℕ} (g : Starts from top t q) where
  abbrev pub Opens : Opened Shown → Type 0
  Opens (opens r) = t.at + length (row_text r) < q
  Opens (refuses x) = Met top x.number x.place

  refuses_met : {x : Refusal} → Refuses t x → Met top x.number x.place
  refuses_met (lacks k h) = record { number = refl; place = omega (arith, g.long, g.within) }
  refuses_met (at_name n h) = record { number = among_all (λ m. among m faults) n (13 ∷ 14 ∷ []) refl h; place = omega (arith, g.long, g.within) }
  refuses_met (at-end n key s h e) = record { number = among_all (λ m. among m faults) n (15 ∷ 16 ∷ []) refl h; place = omega (arith, g.after, g.within) }

  pub start_opens : (k p : ℕ) → Opens (opens_as whole k p t)
  start_opens k p =
      any_way whole whole p t (λ o o'. Opens o)
      (λ x r. refuses_met r)
      (λ k w n v tp c.
      omega (
        arith,
        row_size t k p n v tp w,
        g.text,
        three_sizes c.first c.second c.apart c.first_plain c.second_plain t.attrs,
        from_size (attr c.first t) n c.name,
        from_size (attr c.second t) v c.value,
        from_size (tp_type t.attrs) tp c.tp,
      ))
      k
