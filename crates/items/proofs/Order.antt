-- Rows in document order: parents come before their rows, and what stands in a row is a run that ends at the first row whose parent
-- is not after it.
use Prim.Native.Nat.{ℕ, zero, suc, ◌≤◌, ◌<◌}
use mathlib.Core.Path.{◌≡◌, refl, sym, subst}
use mathlib.Core.List.{List}
use native.Mathlib.Omega.{arith}
use Rattle.utf8.proofs.Sequences.{below}
use Rattle.items.specs.Order.{parent_at, InOrder, Under, DocumentOrder}

-- of n rows, f k being the parent's row plus one of row k: each parent comes before its row; each is the row before, or above that
abbrev pub Falls : (ℕ → ℕ) → ℕ → Type 0
Falls f n = (k : ℕ) → k < n → f k ≤ k

abbrev pub Follow : (ℕ → ℕ) → ℕ → Type 0
Follow f n = (k : ℕ) → k < n → Under f (f k) k

module _ {f : ℕ → ℕ} {w : ℕ} where
  -- one step up
  pub under_up : {v : ℕ} → Under f w v → (u : ℕ) → v ≡ suc u → (v ≡ w → ⊥) → Under f w (f u)
  under_up Under.itself u e n = absurd (n refl)
  under_up (Under.above {u = x} h) u e n = let z : x ≡ u = omega arith in subst (λ k. Under f w (f k)) z h

  pub under_through : {v u : ℕ} → Under f v u → Under f w v → Under f w u
  under_through Under.itself h = h
  under_through (Under.above g) h = Under.above (under_through g h)

  -- what is above a row is before it
  pub under_before : (n : ℕ) → Falls f n → {v : ℕ} → Under f w v → v ≤ n → w ≤ v
  under_before n a Under.itself l = omega arith
  under_before n a (Under.above {u = x} h) l =
      let b = a x (omega arith) in
      omega (arith, under_before n a h (omega arith))

module _ (f : ℕ → ℕ) where
  pub falls_more : (n : ℕ) → Falls f n → f n ≤ n → Falls f (suc n)
  falls_more n a h k l = below k n (λ m. a k m) (λ m. let z : n ≡ k = omega arith in subst (λ j. f j ≤ j) z h)

  pub follow_falls : (n : ℕ) → Follow f n → Falls f n
  follow_falls zero o = λ k l. absurd (omega arith)
  follow_falls (suc n) o =
      let a = follow_falls n (λ k l. o k (omega arith)) in
      falls_more n a (under_before n a (o n (omega arith)) (omega arith))

  -- after row k, whose parent stands before row i, no row has row i for its parent
  module _ (n : ℕ) (o : Follow f n) (i k : ℕ) (l : i < k) (p : f k ≤ i) where
    left : (m : ℕ) → k ≤ m → m < n → Under f (suc i) (suc m) → ⊥
    left zero a b h = absurd (omega arith)
    left (suc m) a b h =
        let c = follow_falls n o in
        let g = under_up h (suc m) refl (λ e. absurd (omega arith)) in
        below k (suc m)
        (λ d. left m (omega arith) (omega arith) (under_through (o (suc m) b) g))
        (λ d.
        let z : suc m ≡ k = omega arith in
        absurd (omega (arith, under_before n c g (omega (arith, c (suc m) b)), subst (λ j. f j ≤ i) (sym z) p)))

    pub run_ends : (m : ℕ) → k ≤ m → m < n → f m ≡ suc i → ⊥
    run_ends m a b e = left m a b (Under.above (subst (λ j. Under f (suc i) j) (sym e) Under.itself))

-- rows in document order are in order
pub document_in_order : (ws : List ℕ) (n : ℕ) → DocumentOrder ws n → (i : ℕ) → InOrder ws n i
document_in_order ws n o i j m k a b c l u v w = run_ends (parent_at ws) n o.under j m b (omega arith) k c l w
