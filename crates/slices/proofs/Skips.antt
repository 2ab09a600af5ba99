-- Laws of looking for a byte by blocks.
use Rattle.std.proofs.Common.{◌≡◌, ℕ, ◌+◌, ◌-◌, ◌*◌, ◌<◌, ◌≤◌, Bool, true, false, List, length, get_or, sym, refl, ap, ◌∙◌, subst, arith, rules}
use native.Mathlib.Decide.{dec_lt}
use Rattle.slices.specs.Bytes.{other}
use Rattle.slices.specs.Run.{Blocks, Run, Told, Without, Sought}
use Rattle.slices.specs.Word.{Equal}
use Rattle.slices.proofs.Runs.{Running, run_reaches, run_stops, other_false, other_true}

-- ---- blocks that pass a test

pub blocks_more : {answers : ℕ → Bool → Type 0} {s : List ℕ} {from n at : ℕ} {r : Bool} → Blocks answers s from n at → n ≤ length s - at → answers at r → r ≡ true → Blocks answers s from n (at + n)
blocks_more {answers} {s} {from} {n} {at} g h p e = record {
  onward = omega (arith, g.onward);
  within = omega (arith, g.within);
  each = λ i a l. go i a l (dec_lt i at);
}
  where
    go : (i : ℕ) → from ≤ i → i < at + n → Dec (i < at) → (k : ℕ) × (k ≤ i) × (i < k + n) × (k + n ≤ length s) × answers k true
    go i a l (yes j) = g.each i a j
    go i a l (no j) = (at, omega (arith, j), l, omega (arith, g.within), subst (answers at) e p)

pub without_blocks : {answers : ℕ → Bool → Type 0} {s : List ℕ} {b from r : ℕ} → Blocks answers s from 32 r → ((at : ℕ) → at + 32 ≤ length s → answers at true → Told s at 32 b false) → Without s b from r
without_blocks {answers} {s} {b} {from} {r} g f = record { onward = g.onward; within = g.within; none = λ i a l. go i (g.each i a l) }
  where
    go : (i : ℕ) → (k : ℕ) × (k ≤ i) × (i < k + 32) × (k + 32 ≤ length s) × answers k true → get_or s i 0 ≡ b → ⊥
    go i (k, m, l, h, p) x =
        let z : k + (i - k) ≡ i = omega (arith, m) in
        (f k h p).none refl (i - k) (omega (arith, l, m)) (ap (λ o. get_or s o 0) z ∙ x)

-- past the bytes of a word before b
without_word : {s : List ℕ} {b from at n : ℕ} → Without s b from at → at + 8 ≤ length s → Equal s at b n → Without s b from (at + n)
without_word {s} {b} {from} {at} {n} g h k = record { onward = omega (arith, g.onward); within = omega (arith, k.within); none = λ i a l x. go i a l x (dec_lt i at) }
  where
    go : (i : ℕ) → from ≤ i → i < at + n → get_or s i 0 ≡ b → Dec (i < at) → ⊥
    go i a l x (yes j) = g.none i a j x
    go i a l x (no j) =
        let z : at + (i - at) ≡ i = omega (arith, j) in
        k.others (i - at) (omega (arith, l, j)) (ap (λ o. get_or s o 0) z ∙ x)

-- b stands in the word at a place
pub sought_found : {s : List ℕ} {b from at k end : ℕ} → Without s b from at → at + 8 ≤ length s → Equal s at b k → k < 8 → Sought s b from end (at + k)
sought_found g h e l = record { without = without_word g h e; found = λ j. e.stops l }

-- or it does not
pub sought_more : {s : List ℕ} {b from k : ℕ} (i : ℕ) → Without s b from (from + 8 * i) → from + 8 * i + 8 ≤ length s → Equal s (from + 8 * i) b k → 8 ≤ k → Without s b from (from + 8 * (i + 1))
sought_more {s} {b} {from} {k} i g h e l =
    let z : from + 8 * i + k ≡ from + 8 * (i + 1) = omega (arith, e.within) in
    subst (Without s b from) z (without_word g h e)

pub sought_ends : {s : List ℕ} {b from r end : ℕ} → Without s b from r → end ≤ r → Sought s b from end r
sought_ends g h = record { without = g; found = λ l. absurd (omega (arith, h, l)) }

pub ruleset skips = (sought_found, sought_more, sought_ends, rules)

without_join : {s : List ℕ} {b from at r : ℕ} → Without s b from at → Without s b at r → Without s b from r
without_join {s} {b} {from} {at} {r} g k = record { onward = omega (arith, g.onward, k.onward); within = k.within; none = λ i a l x. go i a l x (dec_lt i at) }
  where
    go : (i : ℕ) → from ≤ i → i < r → get_or s i 0 ≡ b → Dec (i < at) → ⊥
    go i a l x (yes j) = g.none i a j x
    go i a l x (no j) = k.none i (omega (arith, j)) l x

-- the run goes on up to there
pub without_running : {s : List ℕ} {b from r : ℕ} → Without s b from r → Running (other b) s from r
without_running {s} {b} g = run_reaches g.onward g.within (λ i a l. other_true (get_or s i 0) b (g.none i a l))

pub sought_running : {s : List ℕ} {b from at end r : ℕ} → Without s b from at → Sought s b at end r → Running (other b) s from r
sought_running g k = without_running (without_join g k.without)

-- b stands where a search by 4 words ended before their end
pub near_found : {s : List ℕ} {b from r : ℕ} → Sought s b from (from + 32) r → r < from + 32 → from ≤ length s → 32 ≤ length s - from → Run (other b) s from r
near_found {s} {b} {from} {r} g h k l = run_stops (without_running g.without) (omega arith) (other_false (get_or s r 0) b (g.found h))

-- a run that goes on from a place up to which it went
pub run_join : {p : ℕ → Bool} {s : List ℕ} {from at r : ℕ} → Running p s from at → Run p s at r → Run p s from r
run_join g n = record { ends = n.ends ∙ sym g.left; onward = omega (arith, g.since, n.onward); within = n.within }

pub ruleset finds = (near_found, rules)
