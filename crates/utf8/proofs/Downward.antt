-- The last number of a range that passes a test, as `rev` and `find` look for it.
use Prim.Native.Nat.{ℕ, zero, suc, ◌+◌, ◌-◌, ◌≤◌, ◌<◌}
use mathlib.Core.Path.{◌≡◌, refl, subst}
use mathlib.Core.List.{List, [], ◌∷◌}
use mathlib.Core.Bool.{Bool, true, false}
use native.Mathlib.Omega.{arith}
use lib.ListN.{length, get_or}
use denote.Ref.{Bor}
use denote.Param.Members.{Mut}
use Rattle.std.specs.Prelude.{Option, None, Some, MatchOption}
use Rattle.std.specs.Bool.{⊤}
use Rattle.std.specs.List.{FoldsTo, AllWithin, HoldsAt}
use Rattle.std.specs.Fn.{CalledAt}
use Rattle.std.specs.Iterator.{YieldsThen}
use Rattle.std.specs.Iterator.Adapters.{rev_steps}
use Rattle.std.specs.declared.iter.Rev.{Rev}
use Rattle.std.specs.declared.ops.Range.{Range}
use Rattle.std.proofs.iter.runs.Sources.{nat_range_steps_back}
use Rattle.std.proofs.lemmas.Iterator.{YieldsList, first_from_find}
use Rattle.std.proofs.lemmas.Iterator.Consumers.{YieldsList-from_shown}

-- n numbers from a on, the greatest first
abbrev down : ℕ → ℕ → List ℕ
down a zero = []
down a (suc n) = (a + n) ∷ down a n

length-down : (a n : ℕ) → length (down a n) ≡ n
length-down a zero = refl
length-down a (suc n) = omega (arith, length-down a n)

down_at : (a n k d : ℕ) → k < n → get_or (down a n) k d + k + 1 ≡ a + n
down_at a zero k d h = absurd (omega arith)
down_at a (suc n) zero d h = omega arith
down_at a (suc n) (suc k) d h = omega (arith, down_at a n k d (omega arith))

down_yields : (s : Rev (Range ℕ)) → YieldsList (rev_steps nat_range_steps_back) (λ x. x) s (down s.iter.start (s.iter.end - s.iter.start))
down_yields = YieldsList-from_shown (rev_steps nat_range_steps_back) (λ x. x) (λ u. down u.iter.start (u.iter.end - u.iter.start))
    (λ u t p. omega (arith, length-down u.iter.start (u.iter.end - u.iter.start), p.1.0))
    (λ u x t p. go u.iter.start t.iter.start (u.iter.end - u.iter.start) (t.iter.end - t.iter.start) x p.0 (omega (arith, p.0, p.1.0, p.1.2)) (omega (arith, p.0, p.1.0, p.1.1, p.1.2)))
  where
    go : (a b m n x : ℕ) → b ≡ a → m ≡ suc n → x ≡ a + n → down a m ≡ x ∷ down b n
    go a b m n x e f h = rw (e, f, h) refl

-- the last number of a range of which Yes holds: No holds of each above it, or of all
abbrev pub LastOf : Range ℕ → Option ℕ → (ℕ → Type 0) → (ℕ → Type 0) → Type 0
LastOf w r Yes No =
    MatchOption r ((k : ℕ) → w.start ≤ k → k < w.end → No k) (λ i. (w.start ≤ i) × (i < w.end) × Yes i × ((k : ℕ) → i < k → k < w.end → No k))

pub last_from_rev : {F : Type 0} {g : Mut F (Bor ℕ × Unit {0}) Bool} (s u : Rev (Range ℕ)) {w : Range ℕ} (f : F) (r : Option ℕ) (Yes No : ℕ → Type 0)
    → (xs : List ℕ) × (j : F) × YieldsThen (rev_steps nat_range_steps_back) s xs r u × FoldsTo (λ p x q. CalledAt g p x false q) f xs j × MatchOption r ⊤ (λ x. (h : F) × CalledAt g j x true h)
    → s.iter ≡ w → ((x : ℕ) (q : F) → CalledAt g f x true q → Yes x) → ((x : ℕ) (q : F) → CalledAt g f x false q → (q ≡ f) × No x) → LastOf w r Yes No
last_from_rev s u f r Yes No d e yes' no' = subst (λ w. LastOf w r Yes No) e (by r (first_from_find u f r Yes No d (down_yields s) yes' no'))
  where
    all : List ℕ
    all = down s.iter.start (s.iter.end - s.iter.start)

    long : length all ≡ s.iter.end - s.iter.start
    long = length-down s.iter.start (s.iter.end - s.iter.start)

    above : (n : ℕ) → n ≤ s.iter.end - s.iter.start → AllWithin No all 0 n → (k : ℕ) → s.iter.end - n ≤ k → s.iter.start ≤ k → k < s.iter.end → No k
    above n l h k a b c =
        subst No {x = get_or all (s.iter.end - 1 - k) 0} {y = k}
        (omega (arith, down_at s.iter.start (s.iter.end - s.iter.start) (s.iter.end - 1 - k) 0 (omega arith)))
        (h (s.iter.end - 1 - k) 0 (omega arith) (omega arith))

    by : (o : Option ℕ) → MatchOption o (AllWithin No all 0 (length all)) (λ x. Yes x × (i : ℕ) × (i < length all) × HoldsAt (λ y. y ≡ x) all i × AllWithin No all 0 i) → LastOf s.iter o Yes No
    by None h = λ k a b. above (length all) (omega (arith, long)) h k (omega (arith, long)) a b
    by (Some x) (y, i, l, at, h) =
        let e = at 0 in
        let q = down_at s.iter.start (s.iter.end - s.iter.start) i 0 (omega (arith, l, long)) in
        (omega (arith, e, q, l, long), omega (arith, e, q, l, long), y, λ k a b. above i (omega (arith, l, long)) h k (omega (arith, e, q, l, long)) (omega (arith, e, q, l, long)) b)
