-- A place that is found, or none.
use Prim.Native.Nat.{ℕ, ◌≤◌, ◌<◌}
use mathlib.Core.Path.{◌≡◌, sym, ◌∙◌}
use borrow.Author.Tests.{lt-ltb, le-ltb}
use native.Mathlib.Decide.{dec_lt}
use native.Mathlib.Omega.{arith}
use Rattle.std.specs.Prelude.{Option, Some, None}
use Rattle.profile.specs.Places.{found}

module _ (n p : ℕ) where
  pub found_there : p < n → found n p ≡ Some p
  found_there h = rw (lt-ltb p n h)

  pub found_none : n ≤ p → found n p ≡ None
  found_none h = rw (le-ltb p n h)

module _ {n p : ℕ} {r : Option ℕ} (e : r ≡ found n p) where
  pub some_found : {q : ℕ} → r ≡ Some q → (q ≡ p) × (p < n)
  some_found {q} f = go (dec_lt p n)
    where
      go : Dec (p < n) → (q ≡ p) × (p < n)
      go (yes h) = let z : ◌≡◌ {A = Option ℕ} (Some q) (Some p) = sym f ∙ e ∙ found_there n p h in (cc, h)
      go (no h) = let z : ◌≡◌ {A = Option ℕ} (Some q) None = sym f ∙ e ∙ found_none n p (omega arith) in absurd cc

  pub none_found : r ≡ None → n ≤ p
  none_found f = go (dec_lt p n)
    where
      go : Dec (p < n) → n ≤ p
      go (yes h) = let z : ◌≡◌ {A = Option ℕ} None (Some p) = sym f ∙ e ∙ found_there n p h in absurd cc
      go (no h) = omega arith
