-- Laws of scanning rows for children.
use Prim.Native.Nat.{ℕ, zero, suc, ◌+◌, ◌-◌, ◌*◌, ◌≤◌, ◌<◌}
use native.Mathlib.Nat.{add-zero}
use native.Mathlib.Omega.{arith}
use mathlib.Core.Path.{◌≡◌, refl, ap, sym, subst, ◌∙◌}
use mathlib.Core.List.{List, ◌∷◌}
use mathlib.Core.Bool.{Bool, true, false}
use borrow.Author.Rules.{rules}
use lib.ListN.{length, drop, get_or}
use lib.Seq.{drop-drop}
use Rattle.std.specs.Prelude.{Option as Maybe, None, Some, MatchOption}
use Rattle.std.specs.Bool.{MatchBool}
use Rattle.std.specs.Option.{unwrap_or}
use Rattle.std.specs.List.{AllWithin, HoldsAt, range_with_len}
use Rattle.std.proofs.lemmas.List.FromFn.{length-range_with_len, get_or-range_with_len}
use Rattle.slices.specs.Bytes.{if}
use Rattle.items.specs.Words.{row_of, word_at}
use Rattle.items.specs.Order.{InOrder}
use Rattle.writers.specs.Rows.{words_in, any_child, Child, SomeChild, NextChild, ChildOf, Last}

-- one row and those after it
pub rows_one : (ws : List ℕ) (k n : ℕ) → words_in ws k (suc n) ≡ row_of (drop (k * 16) ws) ∷ words_in ws (suc k) n
rows_one ws k n =
    let e : k * 16 + 16 ≡ suc k * 16 = omega arith in
    rw (drop-drop 16 (k * 16) ws, e)

-- a child among m rows from a row on, or none
module _ (ws : List ℕ) (kind p : ℕ) where
  any_one : (from m : ℕ) (t : Bool) → Child ws kind p from t → any_child kind p (words_in ws from (suc m)) ≡ if t true (any_child kind p (words_in ws (suc from) m))
  any_one from m t c =
      ap (any_child kind p) (rows_one ws from m)
      ∙ ap (λ b. if b true (any_child kind p (words_in ws (suc from) m))) (sym c.is)

  any_some : (m from k : ℕ) → k < m → Child ws kind p (from + k) true → any_child kind p (words_in ws from m) ≡ true
  any_some zero from k h c = absurd (omega arith)
  any_some (suc m) from zero h c = any_one from m true (rw add-zero at c)
  any_some (suc m) from (suc k) h c =
      let z : from + suc k ≡ suc from + k = omega arith in
      let e = any_some m (suc from) k (omega (arith, h)) (rw z at c) in
      any_one from m _ (record { is = refl }) ∙ either _ e
    where
      either : (b : Bool) {t : Bool} → t ≡ true → if b true t ≡ true
      either true e = refl
      either false e = e

  any_none : (m from : ℕ) → ((k : ℕ) → from ≤ k → k < from + m → Child ws kind p k false) → any_child kind p (words_in ws from m) ≡ false
  any_none zero from h = refl
  any_none (suc m) from h = any_one from m false (h from (omega arith) (omega arith)) ∙ any_none m (suc from) (λ k a b. h k (omega arith) (omega arith))

  pub some_child : (from to : ℕ) (r : Bool) → MatchBool r ((k : ℕ) × (k < length (range_with_len from (to - from))) × HoldsAt (λ j. Child ws kind p j true) (range_with_len from (to - from)) k) (AllWithin (λ j. Child ws kind p j false) (range_with_len from (to - from)) 0 (length (range_with_len from (to - from)))) → SomeChild ws kind p from to r
  some_child from to true h =
      let m = to - from in
      let l : h.0 < m = omega (arith, h.1, length-range_with_len from m) in
      let c = subst (λ j. Child ws kind p j true) (get_or-range_with_len from m h.0 0 l) (h.2 0) in
      record { is = sym (any_some m from h.0 l c) }
  some_child from to false h =
      let m = to - from in
      record {
        is = sym (any_none m from (λ k a b. subst (λ j. Child ws kind p j false) {x = get_or (range_with_len from m) (k - from) 0} {y = k} (omega (arith, get_or-range_with_len from m (k - from) 0 (omega arith))) (h (k - from) 0 (omega arith) (omega (arith, length-range_with_len from m)))));
      }

-- the next child, or the end
pub next_child_is : {ws : List ℕ} {p from to r : ℕ} (o : Maybe ℕ) → from ≤ to
    → MatchOption o ((k : ℕ) → from ≤ k → k < to → word_at ws k 1 ≡ p → ⊥) (λ i. (from ≤ i) × (i < to) × (word_at ws i 1 ≡ p) × ((k : ℕ) → from ≤ k → k < i → word_at ws k 1 ≡ p → ⊥))
    → r ≡ unwrap_or o to → NextChild ws p from to r
next_child_is None l h e = rw e record { onward = l; within = omega arith; none = h; is = λ k. absurd (omega arith) }
next_child_is (Some i) l h e = rw e record { onward = h.0; within = omega (arith, h.1); none = h.3; is = λ _. h.2 }

-- a loop over the rows after row i: up to here they are in order, and `last` is the last child
pub record Ordering (ws : List ℕ) (n i last k : ℕ) : Type 0 where
  pub after : i < k
  pub within : k ≤ n
  pub under : last < k
  pub seen : (m : ℕ) → i < m → m < k → word_at ws m 1 ≡ suc i → m ≤ last
  pub child : i < last → word_at ws last 1 ≡ suc i
  pub good : InOrder ws k i

-- where the children of row j end
pub last_ordered : {ws : List ℕ} {n p j r : ℕ} {t : Bool} → ChildOf ws n p j t → t ≡ true → NextChild ws p (j + 1) n r → Last ws n j r
last_ordered {p = p} {j = j} {r = r} c e m = record {
  onward = omega (arith, m.onward);
  within = m.within;
  none = λ k a b x. c.orders.order e (p - 1) (omega (arith, c.orders.some)) j r k (omega (arith, c.after, c.orders.some)) (omega (arith, m.onward)) a b (c.parent ∙ omega (arith, c.orders.some)) (m.is (omega (arith, a, b)) ∙ omega (arith, c.orders.some)) x;
}

pub last_all : {ws : List ℕ} {n j : ℕ} → j < n → Last ws n j n
last_all h = record { onward = h; within = omega arith; none = λ k a b. absurd (omega (arith, a, b)) }

pub ruleset scans = (last_ordered, last_all, rules)
