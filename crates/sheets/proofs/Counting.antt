-- Words counted at their places: word 0 of each of n records.
use Rattle.std.proofs.Common.{◌≡◌, ℕ, zero, suc, ◌+◌, ◌-◌, ◌^◌, ◌<◌, ◌≤◌, min, Bool, true, false, eqb, List, [], ◌∷◌, ◌++◌, length, get_or, drop, refl, ap, ◌∙◌, append-nil, arith, length-append, length-drop, drop_of_length-le, drop_at, rules}
use native.Mathlib.Decide.{dec_lt}
use Rattle.slices.specs.Bytes.{if}
use Rattle.sheets.specs.Sheet.{occurs}
use Rattle.sheets.specs.Answer.{firsts}
use Rattle.sheets.specs.Counts.{Counted}

-- ---- how often a number occurs

pub occurs_cons : (k x : ℕ) (xs : List ℕ) → occurs k (x ∷ xs) ≡ occurs k (x ∷ []) + occurs k xs
occurs_cons k x xs = go (eqb x k)
  where
    go : (t : Bool) → if t (suc (occurs k xs)) (occurs k xs) ≡ if t 1 0 + occurs k xs
    go true = omega arith
    go false = omega arith

pub occurs_few : (k : ℕ) (xs : List ℕ) → occurs k xs ≤ length xs
occurs_few k [] = omega arith
occurs_few k (x ∷ xs) = go (eqb x k) (occurs_few k xs)
  where
    go : (t : Bool) → occurs k xs ≤ length xs → if t (suc (occurs k xs)) (occurs k xs) ≤ suc (length xs)
    go true h = omega arith
    go false h = omega arith

-- ---- records

empty_list : (r : List ℕ) → length r ≡ 0 → r ≡ []
empty_list [] e = refl
empty_list (x ∷ r) e = absurd (omega arith)

-- the first of them, and those after it
firsts_more : (w n : ℕ) (xs record₀ rest : List ℕ) → 0 < w → xs ≡ record₀ ++ rest → length record₀ ≡ min w (length xs) → 0 < length xs → firsts w (suc n) xs ≡ get_or record₀ 0 0 ∷ firsts w n rest
firsts_more w n xs [] rest p e l h = absurd (omega arith)
firsts_more w n xs (y ∷ ys) rest p e l h =
    let many : length xs ≡ suc (length ys) + length rest = ap length e ∙ length-append (y ∷ ys) rest in
    let d : drop (w - 1) (ys ++ rest) ≡ rest = go (dec_lt (length xs) w) many in
    rw e (ap (λ (z : List ℕ). y ∷ firsts w n z) d)
  where
    go : Dec (length xs < w) → length xs ≡ suc (length ys) + length rest → drop (w - 1) (ys ++ rest) ≡ rest
    go (yes b) m =
        let z : length rest ≡ 0 = omega arith in
        let q : rest ≡ [] = empty_list rest z in
        rw q (drop_of_length-le (ys ++ []) (rw append-nil (omega arith)))
    go (no b) m = drop_at ys rest (w - 1) (omega arith)

pub length_firsts : (w n : ℕ) (words : List ℕ) → length (firsts w n words) ≤ length words
length_firsts w zero words = omega arith
length_firsts w (suc n) [] = omega arith
length_firsts w (suc n) (x ∷ words) = let i = length_firsts w n (drop (w - 1) words) in omega (arith, i, length-drop (w - 1) words)

-- a loop that counts, with so many records of the rest left
pub record Counting (w n : ℕ) (words c₀ c : List ℕ) (left size : ℕ) (rest : List ℕ) : Type 0 where
  pub long : length c ≡ 32
  pub by : size ≡ w
  pub here : (k : ℕ) → k < 32 → get_or c₀ k 0 + occurs k (firsts w n words) < 2 ^ 32 → get_or c k 0 + occurs k (firsts w left rest) ≡ get_or c₀ k 0 + occurs k (firsts w n words)

pub counting_begins : {w n left size : ℕ} {words c rest : List ℕ} → length c ≡ 32 → left ≡ n → size ≡ w → rest ≡ words → Counting w n words c c left size rest
counting_begins l e s r = record { long = l; by = s; here = λ k h b. rw (e, r) }

module _ {w n left size : ℕ} {words c₀ c rest : List ℕ} (g : Counting w n words c₀ c left size rest) where
  pub counting_more : (row : List ℕ) {c' rest' : List ℕ} {left' size' : ℕ} → 0 < w → left' + 1 ≡ left → size' ≡ size → rest ≡ row ++ rest' → length row ≡ min size (length rest) → 0 < length rest → length c' ≡ length c → Counted (get_or row 0 0 ∷ []) c c' → Counting w n words c₀ c' left' size' rest'
  counting_more row {c'} {rest'} {left'} {size'} p o z e l h q a =
      let m : length row ≡ min w (length rest) = rw g.by at l in
      let v : suc left' ≡ left = omega arith in
      let f : firsts w left rest ≡ get_or row 0 0 ∷ firsts w left' rest' = rw (← v) (firsts_more w left' rest row rest' p e m h) in
      record {
        long = q ∙ g.long;
        by = z ∙ g.by;
        here = λ k b s.
            let u : occurs k (firsts w left rest) ≡ occurs k (get_or row 0 0 ∷ []) + occurs k (firsts w left' rest') =
            ap (occurs k) f ∙ occurs_cons k (get_or row 0 0) (firsts w left' rest')
            in
            let i = g.here k b s in
            let j = a.here k b (omega (arith, u, i, s)) in
            omega (arith, u, i, j);
      }

  -- nothing is left: no record, or no word
  pub counting_ends : (0 < left → length rest ≡ 0) → Counted (firsts w n words) c₀ c
  counting_ends h = record { here = λ k m s. omega (arith, nothing left rest h k, g.here k m s) }
    where
      nothing : (a : ℕ) (r : List ℕ) → (0 < a → length r ≡ 0) → (k : ℕ) → occurs k (firsts w a r) ≡ 0
      nothing zero r b k = refl
      nothing (suc a) [] b k = refl
      nothing (suc a) (x ∷ r) b k = let z = b (omega arith) in absurd (omega (arith, z))

pub ruleset counting = (counting_begins, counting_more, counting_ends, rules)
