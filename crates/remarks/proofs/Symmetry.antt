-- A comment that is met in one of the two documents is met in the other.
use Prim.Native.Nat.{ℕ, zero, suc, ◌+◌, ◌-◌, ◌≤◌}
use mathlib.Core.Path.{◌≡◌, refl, sym, ap, ◌∙◌}
use mathlib.Core.List.{List, [], ◌∷◌, ◌++◌}
use mathlib.Core.Bool.{Bool, true, false}
use borrow.Author.Tests.{eqb-true}
use native.Mathlib.Omega.{arith}
use lib.Dec.{eqb}
use lib.ListN.{length, take, drop, length-drop, take-append-drop}
use lib.Seq.{length-take-le, drop-append-le}
use Rattle.std.specs.Prelude.{Result, Ok, Err}
use Rattle.faults.specs.declared.Fault.{Fault}
use Rattle.slices.specs.Bytes.{if, bytes, starts}
use Rattle.scan.specs.Ignorable.{seek, markup, ignored}
use Rattle.scan.specs.declared.Markup.{Markup}
use Rattle.scan.specs.declared.Markup.TheVariants.{Tag, Ignored}
use Rattle.scan.proofs.Ignoring.{comment_bytes}
use Rattle.document.specs.Elements.{among}
use Rattle.document.specs.Tokens.{Token}
use Rattle.document.proofs.Tests.{never}
use Rattle.met.specs.Passed.{here, beyond, passed_from, passed_over}
use Rattle.met.specs.Met.{met_tokens, place_after, comments_to}
use Rattle.remarks.proofs.Comments.{among_first, among_second, among_either}
use Rattle.remarks.specs.Differing.{Differ, MetInBoth}
use Rattle.remarks.proofs.Local.{markup_local}
use Rattle.remarks.proofs.Meeting.{passed_since}
use Rattle.remarks.proofs.Whole.{room, front_also, met_same}

-- ---- among others

among_here : (c : ℕ) (l : List ℕ) (at : ℕ) (cs : List ℕ) → among c cs ≡ true → among c (here l at cs) ≡ true
among_here c l at cs e = go (starts (bytes "!--") l)
  where
    first : (t : Bool) → if t true (among c cs) ≡ true
    first true = refl
    first false = e

    go : (t : Bool) → among c (if t (at ∷ cs) cs) ≡ true
    go true = first (eqb c at)
    go false = e

-- ---- on the way to a tag

module _ (c e : ℕ) (r r' : List ℕ) (o' : seek 22 (bytes "-->") (c + 4) r' (c + 4) ≡ Ok e) where
  -- the comment itself
  met_here : (s : List ℕ) (at : ℕ) → suc at + length s ≡ c + 4 → eqb c at ≡ true → starts (bytes "!--") (s ++ r) ≡ true → among c (beyond (markup (s ++ r') at) (s ++ r') at (λ p. passed_from (p - suc at) (s ++ r') (suc at))) ≡ true
  met_here [] at l z f = let w = eqb-true c at z in absurd (omega arith)
  met_here (p ∷ []) at l z f = let w = eqb-true c at z in absurd (omega arith)
  met_here (p ∷ q ∷ []) at l z f = let w = eqb-true c at z in absurd (omega arith)
  met_here (p ∷ q ∷ t ∷ u ∷ s) at l z f = let w = eqb-true c at z in absurd (omega arith)
  met_here (p ∷ q ∷ t ∷ []) at l z f =
      let w = comment_bytes p q t r f in
      let m : markup (p ∷ q ∷ t ∷ r') at ≡ Ok (Ignored e) = rw (w.0, w.1, w.2, ← eqb-true c at z) (ap ignored o') in
      rw (m, w.0, w.1, w.2, z)

  met_passed : (k : ℕ) (s : List ℕ) (at : ℕ) → at + length s ≡ c + 4 → among c (passed_from k (s ++ r) at) ≡ true → among c (passed_from k (s ++ r') at) ≡ true
  met_passed k [] at l a = absurd (let z = passed_since c k r at a in omega arith)
  met_passed (suc k) (b ∷ s) at l a = met_passed k s (suc at) (omega arith) a
  met_passed zero (b ∷ s) at l a = go (eqb b 60) a (λ k f. met_passed k s (suc at) (omega arith) f)
    where
      Further : Type 0
      Further = (k : ℕ) → among c (passed_from k (s ++ r) (suc at)) ≡ true → among c (passed_from k (s ++ r') (suc at)) ≡ true

      Met : Type 0
      Met = among c (beyond (markup (s ++ r') at) (s ++ r') at (λ p. passed_from (p - suc at) (s ++ r') (suc at))) ≡ true

      later : (p : ℕ) → markup (s ++ r) at ≡ Ok (Ignored p) → among c (passed_from (p - suc at) (s ++ r) (suc at)) ≡ true → Further → Met
      later p f a i =
          let z = passed_since c (p - suc at) (s ++ r) (suc at) a in
          rw (markup_local r r' s at p f (omega arith)) (among_here c (s ++ r') at (passed_from (p - suc at) (s ++ r') (suc at)) (i (p - suc at) a))

      first : (p : ℕ) → markup (s ++ r) at ≡ Ok (Ignored p) → starts (bytes "!--") (s ++ r) ≡ true → (t : Bool) → eqb c at ≡ t → if t true (among c (passed_from (p - suc at) (s ++ r) (suc at))) ≡ true → Further → Met
      first p f g true w a i = met_here s at (omega arith) w g
      first p f g false w a i = later p f a i

      begins : (p : ℕ) → markup (s ++ r) at ≡ Ok (Ignored p) → (t : Bool) → starts (bytes "!--") (s ++ r) ≡ t → among c (if t (at ∷ passed_from (p - suc at) (s ++ r) (suc at)) (passed_from (p - suc at) (s ++ r) (suc at))) ≡ true → Further → Met
      begins p f true g a i = first p f g (eqb c at) refl a i
      begins p f false g a i = later p f a i

      marked : (x : Result Markup Fault) → markup (s ++ r) at ≡ x → among c (beyond x (s ++ r) at (λ p. passed_from (p - suc at) (s ++ r) (suc at))) ≡ true → Further → Met
      marked (Ok Tag) f a i = never a
      marked (Err x) f a i = never a
      marked (Ok (Ignored p)) f a i = begins p f (starts (bytes "!--") (s ++ r)) refl a i

      go : (t : Bool) → among c (if t (beyond (markup (s ++ r) at) (s ++ r) at (λ p. passed_from (p - suc at) (s ++ r) (suc at))) (passed_from 0 (s ++ r) (suc at))) ≡ true → Further → among c (if t (beyond (markup (s ++ r') at) (s ++ r') at (λ p. passed_from (p - suc at) (s ++ r') (suc at))) (passed_from 0 (s ++ r') (suc at))) ≡ true
      go true a i = marked (markup (s ++ r) at) refl a i
      go false a i = i 0 a

-- ---- on the way to tokens

module _ (c e : ℕ) (d d' : List ℕ) (w : Differ c e d d') where
  -- what both documents have from a place to the comment's inside
  abbrev stretch : ℕ → List ℕ
  stretch at = drop at (take (c + 4) d)

  long : length (take (c + 4) d) ≡ c + 4
  long = length-take-le (c + 4) d (room c e d d' w)

  from_place : (at : ℕ) → at ≤ c → (stretch at ++ drop (c + 4) d ≡ drop at d) × (stretch at ++ drop (c + 4) d' ≡ drop at d')
  from_place at h = (
    sym (drop-append-le at (take (c + 4) d) (drop (c + 4) d) (omega (arith, long))) ∙ ap (drop at) (take-append-drop (c + 4) d),
    sym (drop-append-le at (take (c + 4) d) (drop (c + 4) d') (omega (arith, long))) ∙ ap (drop at) (front_also c e d d' w),
  )

  over_also : (at : ℕ) → among c (passed_over (drop at d) at) ≡ true → among c (passed_over (drop at d') at) ≡ true
  unfolding passed_over
  over_also at a =
      let h : at ≤ c = omega (arith, passed_since c 0 (drop at d) at a) in
      let p = from_place at h in
      let l : at + length (stretch at) ≡ c + 4 = rw length-drop (omega (arith, long)) in
      rw p.1 at (met_passed c e (drop (c + 4) d) (drop (c + 4) d') w.also 0 (stretch at) at l (rw p.0 a))

  to_also : (at : ℕ) (ts : List Token) → among c (comments_to d at ts) ≡ true → among c (comments_to d' at ts) ≡ true
  to_also at [] a = never a
  to_also at (t ∷ ts) a =
      among_either c (passed_over (drop at d) at) (comments_to d (place_after t) ts) a
      (λ f. among_first c (passed_over (drop at d') at) (comments_to d' (place_after t) ts) (over_also at f))
      (λ f. among_second c (passed_over (drop at d') at) (comments_to d' (place_after t) ts) (to_also (place_after t) ts f))

-- ---- the theorem

pub met_in_both : MetInBoth
met_in_both c e d d' w =
    record {
      met = rw (met_same c e d d' w) at (to_also c e d d' w 0 (met_tokens d) w.met);
      before = sym w.before;
      closes = w.also;
      also = w.closes;
      after = sym w.after;
      utf8 = w.utf8_also;
      utf8_also = w.utf8;
    }
