-- What a piece of a value may be; and so the bytes that show themselves, and no text longer than its value.
use Prim.Native.Nat.{ℕ, zero, suc, ◌+◌, ◌≤◌, ◌<◌}
use mathlib.Core.Path.{◌≡◌, refl, sym, ap, ◌∙◌}
use mathlib.Core.List.{List, [], ◌∷◌, ◌++◌, append-nil}
use mathlib.Core.Bool.{Bool, true, false, not, ◌||◌}
use borrow.Author.Tests.{eqb-true, not-false}
use native.Mathlib.Nat.{add-zero, zero-add}
use native.Mathlib.Omega.{arith}
use lib.Dec.{eqb}
use lib.ListN.{length, drop, get_or, length-append, length-drop, drop_of_length-le}
use Rattle.slices.specs.Bytes.{if, other, span, past, empty, all}
use Rattle.slices.specs.Run.{Run}
use Rattle.slices.proofs.Runs.{both, past-drop, run_stop}
use Rattle.utf8.specs.Encoding.{utf8}
use Rattle.utf8.proofs.Encodings.{utf8_short}
use Rattle.answers.specs.Text.{Text, text, wrong}
use Rattle.references.specs.Characters.{xml_char}
use Rattle.references.specs.Unescape.{Reference, character, fault, reference, Piece, shows, bad, referred, after_ampersand, after_cr, piece, before, joined, shown_from, unescape, plain}
use Rattle.references.proofs.Entities.{reference_good}
use Rattle.references.proofs.Values.{taken, before_nil, before_before, plain_piece}

-- ---- bytes that show themselves

pub plain_shows : (s x : List ℕ) (at : ℕ) → all plain s ≡ true → shown_from 0 (s ++ x) at ≡ before s (shown_from 0 x (at + length s))
plain_shows [] x at h = rw add-zero (sym (before_nil (shown_from 0 x at)))
plain_shows (b ∷ s) x at h =
    let t = both (plain b) (all plain s) h in
    let e : at + suc (length s) ≡ suc at + length s = omega arith in
    rw (plain_piece b (s ++ x) t.0, plain_shows s x (suc at) t.1, e) (before_before (b ∷ []) s (shown_from 0 x (suc at + length s)))

-- a value free of `&`, tab, LF and CR shows itself
pub unescape_plain : (v : List ℕ) → all plain v ≡ true → unescape v ≡ text v
unfolding unescape
unescape_plain v h = rw append-nil at (plain_shows v [] 0 h)

-- ---- what a piece may be

pub data Shape (b : ℕ) (l s : List ℕ) (w : ℕ) : Type 0 where
  itself : plain b ≡ true → s ≡ b ∷ [] → w ≡ 0 → Shape b l s w
  space : s ≡ 32 ∷ [] → w ≡ 0 → Shape b l s w
  line : (k : List ℕ) → l ≡ 10 ∷ k → s ≡ 32 ∷ [] → w ≡ 1 → Shape b l s w
  referred_to : (c n : ℕ) → xml_char c ≡ true → 2 ≤ n → n < length l → get_or l n 0 ≡ 59 → s ≡ utf8 c → w ≡ suc n → Shape b l s w

-- a test, and what it leads to
by_test : {A : Type 0} {P : Type 0} (t : Bool) {x y z : A} → (t ≡ true → x ≡ z → P) → (t ≡ false → y ≡ z → P) → if t x y ≡ z → P
by_test true f g e = f refl e
by_test false f g e = g refl e

span_within : (p : ℕ → Bool) (l : List ℕ) → length (span p l) ≤ length l
span_within p [] = omega arith
span_within p (b ∷ l) = go (p b) (span_within p l)
  where
    go : (t : Bool) → length (span p l) ≤ length l → length (if t (b ∷ span p l) []) ≤ suc (length l)
    go true h = omega arith
    go false h = omega arith

run_from_start : (p : ℕ → Bool) (l : List ℕ) → Run p l 0 (length (span p l))
run_from_start p l = record { ends = sym (zero-add (length (span p l))); onward = omega arith; within = span_within p l }

module _ (b : ℕ) (l s : List ℕ) (w : ℕ) where
  ampersand_shape : after_ampersand l ≡ shows s w → Shape b l s w
  ampersand_shape = by_test (empty (past (other 59) l)) (λ t e. absurd (no_bad 9 e)) (λ t. go t (reference (span (other 59) l)) refl)
    where
      no_bad : (n : ℕ) → bad n ≡ shows s w → ⊥
      no_bad n e = let z : ◌≡◌ {A = ℕ} 0 1 = cc in omega arith

      inside : empty (past (other 59) l) ≡ false → length (span (other 59) l) < length l
      inside t = let n : length l ≤ length (span (other 59) l) → ⊥ = λ h. none h in omega arith
        where
          none : length l ≤ length (span (other 59) l) → ⊥
          none h =
              let e : empty (past (other 59) l) ≡ true = rw (past-drop (other 59) l, drop_of_length-le l h) in
              let z : ◌≡◌ {A = ℕ} 0 1 = cc in
              omega arith

      go : empty (past (other 59) l) ≡ false → (r : Reference) → reference (span (other 59) l) ≡ r → referred r (suc (length (span (other 59) l))) ≡ shows s w → Shape b l s w
      go t (character c) e f =
          let g = reference_good (span (other 59) l) c e in
          let n = length (span (other 59) l) in
          let h : n < length l = inside t in
          let q : s ≡ utf8 c = cc in
          let u : w ≡ suc n = cc in
          referred_to c n g.1 g.0 h (eqb-true (get_or l n 0) 59 (not-false (eqb (get_or l n 0) 59) (run_stop (run_from_start (other 59) l) h))) q u
      go t (fault n) e f = absurd (no_bad n f)

  cr_shape : (l : List ℕ) → after_cr l ≡ shows s w → Shape b l s w
  cr_shape [] e = let q : s ≡ 32 ∷ [] = cc in let u : w ≡ 0 = cc in space q u
  cr_shape (c ∷ k) e =
      by_test (eqb c 10)
      (λ t f. let q : s ≡ 32 ∷ [] = cc in let u : w ≡ 1 = cc in let d : c ≡ 10 = eqb-true c 10 t in line k (ap (λ (x : ℕ). x ∷ k) d) q u)
      (λ t f. let q : s ≡ 32 ∷ [] = cc in let u : w ≡ 0 = cc in space q u)
      e

  pub shape : piece b l ≡ shows s w → Shape b l s w
  unfolding piece
  shape =
      by_test (eqb b 38) (λ t. ampersand_shape)
      (λ t₁. by_test (eqb b 13) (λ t. cr_shape l)
      (λ t₂. by_test (eqb b 10 || eqb b 9)
      (λ t e. let q : s ≡ 32 ∷ [] = cc in let u : w ≡ 0 = cc in space q u)
      (λ t₃ e. let q : s ≡ b ∷ [] = cc in let u : w ≡ 0 = cc in itself (plain_by (eqb b 38) (eqb b 9) (eqb b 10) (eqb b 13) t₁ t₂ t₃) q u)))
    where
      plain_by : (p q r s : Bool) → p ≡ false → s ≡ false → r || q ≡ false → not (p || q || r || s) ≡ true
      plain_by false false false false e f g = refl
      plain_by true q r s e f g = cc
      plain_by false q r true e f g = cc
      plain_by false true true false e f g = cc
      plain_by false true false false e f g = cc
      plain_by false false true false e f g = cc

-- ---- no text is longer than its value

shape_bounds : {b : ℕ} {l s : List ℕ} {w : ℕ} → Shape b l s w → (length s ≤ suc w) × (w ≤ length l)
shape_bounds (itself p q u) = rw (q, u) (omega arith, omega arith)
shape_bounds (space q u) = rw (q, u) (omega arith, omega arith)
shape_bounds (line k e q u) = rw (e, q, u) (omega arith, omega arith)
shape_bounds (referred_to c n x h i e q u) = rw (q, u) (omega (arith, utf8_short c), omega arith)

-- what is shown after some bytes
pub after_text : (s t : List ℕ) (x : Text) → before s x ≡ text t → (u : List ℕ) × (x ≡ text u) × (t ≡ s ++ u)
after_text s t (text u) e = (u, refl, cc)
after_text s t (wrong n p) e = let z : ◌≡◌ {A = ℕ} 0 1 = cc in absurd (omega arith)

-- what is shown after a piece
pub piece_next : (b : ℕ) (l : List ℕ) (at : ℕ) (t : List ℕ) → shown_from 0 (b ∷ l) at ≡ text t → (s : List ℕ) × (w : ℕ) × (u : List ℕ) × Shape b l s w × (w ≤ length l) × (shown_from 0 (drop w l) (suc at + w) ≡ text u) × (t ≡ s ++ u)
piece_next b l at t = go (piece b l) refl
  where
    go : (p : Piece) → piece b l ≡ p → joined p at (λ w. shown_from w l (suc at)) ≡ text t → (s : List ℕ) × (w : ℕ) × (u : List ℕ) × Shape b l s w × (w ≤ length l) × (shown_from 0 (drop w l) (suc at + w) ≡ text u) × (t ≡ s ++ u)
    go (bad n) e f = let z : ◌≡◌ {A = ℕ} 0 1 = cc in absurd (omega arith)
    go (shows s w) e f =
        let h = shape b l s w e in
        let i = (shape_bounds h).1 in
        let a = after_text s t (shown_from w l (suc at)) f in
        (s, w, a.0, h, i, sym (taken w l (suc at) i) ∙ a.1, a.2)

-- by what holds of what is left after a piece
short_step : (l : List ℕ) (at : ℕ) (t : List ℕ) → ((k : List ℕ) (p : ℕ) (u : List ℕ) → length k < length l → shown_from 0 k p ≡ text u → length u ≤ length k) → shown_from 0 l at ≡ text t → length t ≤ length l
short_step [] at t i e = let q : t ≡ [] = cc in rw q (omega arith)
short_step (b ∷ l) at t i e =
    let p = piece_next b l at t e in
    let j = i (drop p.1 l) (suc at + p.1) p.2 (rw length-drop (omega arith)) p.5 in
    let k = shape_bounds p.3 in
    rw (p.6, length-append) (omega (arith, rw length-drop at j, k.0, k.1))

shown_short : (n : ℕ) (l : List ℕ) (at : ℕ) (t : List ℕ) → length l ≤ n → shown_from 0 l at ≡ text t → length t ≤ length l
shown_short zero l at t h = short_step l at t (λ k p u m e. absurd (omega arith))
shown_short (suc n) l at t h = short_step l at t (λ k p u m e. shown_short n k p u (omega arith) e)

pub unescape_short : (v t : List ℕ) → unescape v ≡ text t → length t ≤ length v
unfolding unescape
unescape_short v t e = shown_short (length v) v 0 t (omega arith) e
