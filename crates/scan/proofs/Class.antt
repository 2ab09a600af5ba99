-- The table of classes: one test that computes, and what it says of each byte; and which bytes are below 128.
use Prim.Native.Nat.{ℕ, zero, suc, ◌+◌, ◌<◌}
use mathlib.Core.Path.{◌≡◌, refl, ◌∙◌, sym}
use mathlib.Core.List.{List, [], ◌∷◌}
use mathlib.Core.Bool.{Bool, true, false, false≢true}
use native.Mathlib.Omega.{arith}
use native.Mathlib.Nat.{add-zero, zero-add}
use lib.ListN.{get_or}
use Rattle.slices.proofs.Runs.{by_byte}
use Rattle.scan.specs.Classes.{Classes, class_of, white, name_byte}

-- f at each of n numbers from i on
abbrev tabulated : (ℕ → ℕ) → ℕ → ℕ → List ℕ
tabulated f i zero = []
tabulated f i (suc n) = f i ∷ tabulated f (suc i) n

tabulated_at : (f : ℕ → ℕ) (i n k : ℕ) → k < n → get_or (tabulated f i n) k 0 ≡ f (i + k)
tabulated_at f i zero k h = absurd (omega arith)
tabulated_at f i (suc n) zero h = rw add-zero
tabulated_at f i (suc n) (suc k) h =
    let e : suc i + k ≡ i + suc k = omega arith in
    rw (← e) (tabulated_at f (suc i) n k (omega arith))

pub classes_table : (t : List ℕ) → t ≡ tabulated class_of 0 256 → Classes t
classes_table t e = record { rule = λ b h. rw e (tabulated_at class_of 0 256 b h ∙ rw zero-add) }

-- a byte that is no name's, and so white space, is below 128
abbrev Small : ℕ → Type 0
Small b = name_byte b ≡ false → b < 128

pub name_small : (b : ℕ) → Small b
name_small b =
    by_byte Small b 32 (λ e. omega arith)
    λ f. by_byte Small b 9 (λ e. omega arith)
    λ g. by_byte Small b 10 (λ e. omega arith)
    λ h. by_byte Small b 12 (λ e. omega arith)
    λ i. by_byte Small b 13 (λ e. omega arith)
    λ j. by_byte Small b 61 (λ e. omega arith)
    λ k. by_byte Small b 47 (λ e. omega arith)
    λ l. by_byte Small b 60 (λ e. omega arith)
    λ m. by_byte Small b 62 (λ e. omega arith)
    λ n e. absurd (false≢true (sym (rw (f, g, h, i, j, k, l, m, n) at e)))

pub white_small : (b : ℕ) → white b ≡ true → b < 128
white_small b e = name_small b (rw e)

-- a byte of a name is no white space
pub name_not_white : (b : ℕ) → name_byte b ≡ true → white b ≡ false
name_not_white b h = go (white b) refl
  where
    go : (t : Bool) → white b ≡ t → white b ≡ false
    go true e = let z : name_byte b ≡ false = rw e in cc
    go false e = e
