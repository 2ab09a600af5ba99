-- A docstring holds the comment whole or misses it: it is trimmed alike in both documents.
use Prim.Native.Nat.{ℕ, zero, suc, ◌+◌, ◌-◌, ◌≤◌}
use mathlib.Core.Path.{◌≡◌, sym, ap, ◌∙◌}
use mathlib.Core.List.{List, [], ◌∷◌, ◌++◌}
use mathlib.Core.Logic.{◌⊎◌, inl, inr}
use native.Mathlib.Omega.{arith}
use lib.ListN.{length, take, drop, length-drop}
use lib.Seq.{drop-append-le, drop-append-add, take-append-le, take-append-add}
use Rattle.utf8.specs.WellFormed.{ill_formed}
use Rattle.utf8.specs.WhiteSpace.{trim_start, trim_end}
use Rattle.utf8.proofs.Sequences.{below}
use Rattle.utf8.proofs.Cuts.{part_formed}
use Rattle.utf8.proofs.Between.{trim_order}
use Rattle.document.specs.Rows.{Doc, Tables}
use Rattle.document.specs.Reading.{captured}
use Rattle.accepted.proofs.Tokens.{After, Before}
use Rattle.accepted.proofs.Docstrings.{after_cut, before_cut}
use Rattle.remarks.proofs.Meets.{Out}
use Rattle.remarks.proofs.Trimming.{trim_around, trim-between}

-- what stands from a place to another
abbrev part : ℕ → ℕ → List ℕ → List ℕ
part s lt x = take (lt - s) (drop s x)

part_well : (x : List ℕ) (s lt : ℕ) → ill_formed x ≡ length x → After x s → Before x lt → ill_formed (part s lt x) ≡ length (part s lt x)
part_well x s lt h a b =
    part_formed x s (lt - s) (after_cut x h s a)
    (below s lt
    (λ i. let n : s + (lt - s) ≡ lt = omega arith in rw n (before_cut x h lt b))
    (λ i. let n : s + (lt - s) ≡ s = omega arith in rw n (after_cut x h s a)))

-- the part before the comment
part_before : (a w : List ℕ) (s lt : ℕ) → lt ≤ length a → part s lt (a ++ w) ≡ part s lt a
part_before a w s lt h =
    below lt s
    (λ i. let n : lt - s ≡ 0 = omega arith in rw n)
    (λ i. rw (drop-append-le s a w (omega arith)) (take-append-le (lt - s) (drop s a) w (rw length-drop (omega arith))))

-- the part after it
drop_after : (a m y : List ℕ) (s : ℕ) → length a + suc (length m + 1) ≤ s → drop s (a ++ 60 ∷ (m ++ 62 ∷ y)) ≡ drop (s - (length a + suc (length m + 1))) y
drop_after a m y s h =
    let k = s - (length a + suc (length m + 1)) in
    let n : s ≡ length a + suc (length m + suc k) = omega arith in
    ap (λ i. drop i (a ++ 60 ∷ (m ++ 62 ∷ y))) n ∙ drop-append-add a (60 ∷ (m ++ 62 ∷ y)) (suc (length m + suc k)) ∙ drop-append-add m (62 ∷ y) (suc k)

-- the part around it
part_around : (a m y : List ℕ) (s lt : ℕ) → s ≤ length a → length a + suc (length m + 1) ≤ lt → part s lt (a ++ 60 ∷ (m ++ 62 ∷ y)) ≡ drop s a ++ 60 ∷ (m ++ 62 ∷ take (lt - (length a + suc (length m + 1))) y)
part_around a m y s lt h i =
    let k = lt - (length a + suc (length m + 1)) in
    let n : lt - s ≡ length (drop s a) + suc (length m + suc k) = rw (length-drop s a) (omega arith) in
    rw (drop-append-le s a (60 ∷ (m ++ 62 ∷ y)) h, n)
    (take-append-add (drop s a) (60 ∷ (m ++ 62 ∷ y)) (suc (length m + suc k)) ∙ ap (λ z. drop s a ++ 60 ∷ z) (take-append-add m (62 ∷ y) (suc k)))

-- what follows a place after it
rest_same : (a m n y : List ℕ) → length m ≡ length n → (s : ℕ) → length a + suc (length m + 1) ≤ s → drop s (a ++ 60 ∷ (m ++ 62 ∷ y)) ≡ drop s (a ++ 60 ∷ (n ++ 62 ∷ y))
rest_same a m n y l s h =
    let z : s - (length a + suc (length m + 1)) ≡ s - (length a + suc (length n + 1)) = omega arith in
    drop_after a m y s h ∙ rw z (sym (drop_after a n y s (omega arith)))

take_short : (n : ℕ) (l : List ℕ) → length (take n l) ≤ n
take_short zero l = omega arith
take_short (suc n) [] = omega arith
take_short (suc n) (b ∷ l) = let i = take_short n l in omega arith

captured_alike : {A : Type 0} (x y : List ℕ) (s i : ℕ) (u : Tables A) → (trim_start x ≡ trim_start y) × (trim_end x ≡ trim_end y) → captured x s i u ≡ captured y s i u
captured_alike x y s i u e = rw (e.0, e.1)

-- a docstring ends before the comment, begins after it, or spans it
abbrev pub DocOut : ℕ → ℕ → Doc → Type 0
DocOut c e d = (d.start + d.len ≤ c) ⊎ ((e ≤ d.start) ⊎ ((d.start ≤ c) × (e ≤ d.start + d.len)))

module _ (c e : ℕ) (a m n y : List ℕ) (la : length a ≡ c) (lm : length m ≡ length n) (le : c + suc (length m + 1) ≡ e) where
  abbrev first : List ℕ
  first = a ++ 60 ∷ (m ++ 62 ∷ y)

  abbrev second : List ℕ
  second = a ++ 60 ∷ (n ++ 62 ∷ y)

  pub ends_same : (s : ℕ) → e ≤ s → drop s first ≡ drop s second
  ends_same s h = rest_same a m n y lm s (omega arith)

  -- so many bytes at a place before it or after it
  pub out_same : (at k : ℕ) → (at + k ≤ c) ⊎ (e ≤ at) → take k (drop at first) ≡ take k (drop at second)
  out_same at k (inl h) =
      let z : at + k - at ≡ k = omega arith in
      let p = rw z at (part_before a (60 ∷ (m ++ 62 ∷ y)) at (at + k) (omega arith)) in
      let q = rw z at (part_before a (60 ∷ (n ++ 62 ∷ y)) at (at + k) (omega arith)) in
      p ∙ sym q
  out_same at k (inr h) = ap (take k) (ends_same at h)

  abbrev pub Opens : ℕ → Type 0
  Opens s = After first s × After second s × Out c e s

  abbrev pub Shuts : ℕ → Type 0
  Shuts lt = Before first lt × Before second lt × Out c e lt

  module _ (h : ill_formed first ≡ length first) (g : ill_formed second ≡ length second) where
    pub content_alike : {A : Type 0} (s lt i : ℕ) (u : Tables A) → Opens s → Shuts lt → captured (part s lt first) s i u ≡ captured (part s lt second) s i u
    content_alike s lt i u o b = go o.2 b.2
      where
        go : Out c e s → Out c e lt → captured (part s lt first) s i u ≡ captured (part s lt second) s i u
        go x (inl l) = ap (λ z. captured z s i u) (part_before a (60 ∷ (m ++ 62 ∷ y)) s lt (omega arith) ∙ sym (part_before a (60 ∷ (n ++ 62 ∷ y)) s lt (omega arith)))
        go (inr k) (inr l) = ap (λ z. captured (take (lt - s) z) s i u) (ends_same s k)
        go (inl k) (inr l) =
            let z : lt - (length a + suc (length n + 1)) ≡ lt - (length a + suc (length m + 1)) = omega arith in
            let v = part_around a m y s lt (omega arith) (omega arith) in
            let w = rw z at (part_around a n y s lt (omega arith) (omega arith)) in
            let hv = rw v at (part_well first s lt h o.0 b.0) in
            let gw = rw w at (part_well second s lt g o.1 b.1) in
            rw (v, w) (captured_alike _ _ s i u (trim-between (drop s a) m n (take (lt - (length a + suc (length m + 1))) y) hv gw lm))

    pub content_out : (s lt : ℕ) → Opens s → Shuts lt → DocOut c e (record { start = s + trim_start (part s lt first); len = trim_end (part s lt first) - trim_start (part s lt first) })
    content_out s lt o b = go o.2 b.2
      where
        order : (trim_start (part s lt first) ≤ trim_end (part s lt first)) × (trim_end (part s lt first) ≤ length (part s lt first))
        order = trim_order (part s lt first) (part_well first s lt h o.0 b.0)

        go : Out c e s → Out c e lt → DocOut c e (record { start = s + trim_start (part s lt first); len = trim_end (part s lt first) - trim_start (part s lt first) })
        go (inr k) x = inr (inl (omega arith))
        go (inl k) (inl l) = inl (omega (arith, order, take_short (lt - s) (drop s first)))
        go (inl k) (inr l) =
            let v = part_around a m y s lt (omega arith) (omega arith) in
            let t = rw (← v) at (trim_around (drop s a) m (take (lt - (length a + suc (length m + 1))) y) (rw v at (part_well first s lt h o.0 b.0))) in
            inr (inr (omega (arith, t, length-drop s a), omega (arith, t, order, length-drop s a)))
