-- A run of a class, by its two places: its list, what follows it, and whether it is empty.
use Rattle.std.proofs.Common.{◌≡◌, ℕ, ◌-◌, ◌<◌, ◌≤◌, Bool, true, false, List, [], ◌∷◌, length, take, drop, refl, ap, ◌∙◌, arith}
use Rattle.slices.specs.Bytes.{if, span, past, empty}
use Rattle.slices.specs.Run.{Run}
use Rattle.slices.proofs.Runs.{past_at}

span_take : (p : ℕ → Bool) (l : List ℕ) → span p l ≡ take (length (span p l)) l
span_take p [] = refl
span_take p (b ∷ l) = go (p b) (span_take p l)
  where
    go : (t : Bool) → span p l ≡ take (length (span p l)) l → if t (b ∷ span p l) [] ≡ take (length (if t (b ∷ span p l) [])) (b ∷ l)
    go true e = ap (◌∷◌ b) e
    go false e = refl

empty_none : (s : List ℕ) → length s ≡ 0 → empty s ≡ true
empty_none [] e = refl
empty_none (b ∷ s) e = absurd (omega arith)

pub empty_some : (s : List ℕ) → 0 < length s → empty s ≡ false
empty_some [] h = absurd (omega arith)
empty_some (b ∷ s) h = refl

pub not_empty : (s : List ℕ) → empty s ≡ false → 0 < length s
not_empty [] e = let z : ◌≡◌ {A = ℕ} 0 1 = cc in absurd (omega arith)
not_empty (b ∷ s) e = omega arith

module _ {p : ℕ → Bool} {s : List ℕ} {from r : ℕ} (n : Run p s from r) where
  pub run_length : length (span p (drop from s)) ≡ r - from
  run_length = omega (arith, n.ends)

  pub run_span : span p (drop from s) ≡ take (r - from) (drop from s)
  run_span = rw (← run_length) (span_take p (drop from s))

  pub run_rest : past p (drop from s) ≡ drop r s
  run_rest = past_at p s from ∙ rw (← n.ends)

  pub run_empty : r ≤ from → empty (span p (drop from s)) ≡ true
  run_empty h = empty_none (span p (drop from s)) (omega (arith, n.ends))

  pub run_some : from < r → empty (span p (drop from s)) ≡ false
  run_some h = empty_some (span p (drop from s)) (omega (arith, n.ends))
