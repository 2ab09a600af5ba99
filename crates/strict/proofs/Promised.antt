-- The theorems of specs/Promises.antt.
use Prim.Native.Nat.{ℕ, min, ◌≤◌, ◌<◌}
use mathlib.Core.Path.{◌≡◌, refl, ap, sym, subst, ◌∙◌}
use mathlib.Core.List.{List, [], ◌∷◌}
use mathlib.Core.Bool.{Bool, true, false}
use borrow.Author.Tests.{eq-eqb, eqb-true}
use native.Mathlib.Decide.{dec_lt}
use native.Mathlib.Omega.{arith}
use lib.Dec.{eqb}
use Rattle.std.specs.Prelude.{Option, Some, None}
use Rattle.slices.specs.Bytes.{if, empty}
use Rattle.answers.specs.Text.{Text, text, wrong}
use Rattle.document.specs.Tags.{Shown}
use Rattle.document.specs.Rows.{Tables}
use Rattle.document.specs.Refusals.{bare}
use Rattle.document.specs.Elements.{among}
use Rattle.document.specs.Reading.{State, begun, reading, accepted, refused}
use Rattle.document.specs.Whole.{Room, read}
use Rattle.document.specs.declared.Refusal.{Refusal}
use Rattle.document.proofs.Tests.{never, among_there}
use Rattle.files.specs.Files.{document_of, read_text, read_file}
use Rattle.breaches.specs.Least.{lesser, least}
use Rattle.breaches.specs.Breaches.{breaches}
use Rattle.strict.specs.Strict.{judged, strict, strict_text, strict_file}
use Rattle.strict.specs.Promises.{AcceptedHasNone, NoneIsAccepted, SomeIsRefused, RefusedAlike}

-- the least of some is nowhere only where there is none
some_least : (p : ℕ) (ps : List ℕ) → (q : ℕ) × (least (p ∷ ps) ≡ Some q)
unfolding least lesser
some_least p ps = go (least ps)
  where
    go : (b : Option ℕ) → (q : ℕ) × (lesser (Some p) b ≡ Some q)
    go None = (p, refl)
    go (Some q) = (min p q, refl)

none_least : (ps : List ℕ) → least ps ≡ None → ps ≡ []
none_least [] e = refl
none_least (p ∷ ps) e = let q = some_least p ps in let y : Some q.0 ≡ None = sym q.1 ∙ e in let z : ◌≡◌ {A = ℕ} 0 1 = cc in absurd (omega arith)

-- among some: the first
among_first : (p q : ℕ) (ps : List ℕ) → p ≡ q → among p (q ∷ ps) ≡ true
among_first p q ps e = rw (eq-eqb p q e)

-- the least is one of them, and none is less
record Least (q : ℕ) (ps : List ℕ) : Type 0 where
  one : among q ps ≡ true
  none : (r : ℕ) → among r ps ≡ true → q ≤ r

least_is : (ps : List ℕ) (q : ℕ) → least ps ≡ Some q → Least q ps
unfolding least lesser
least_is [] q e = let z : ◌≡◌ {A = ℕ} 0 1 = cc in absurd (omega arith)
least_is (p ∷ ps) q e = go (least ps) refl e (λ r f. least_is ps r f)
  where
    within : (r : ℕ) → among r (p ∷ ps) ≡ true → q ≤ p → (among r ps ≡ true → q ≤ r) → q ≤ r
    within r h l i = pick (eqb r p) refl h
      where
        pick : (t : Bool) → eqb r p ≡ t → if t true (among r ps) ≡ true → q ≤ r
        pick true f h = omega (arith, eqb-true r p f)
        pick false f h = i h

    go : (b : Option ℕ) → least ps ≡ b → lesser (Some p) b ≡ Some q → ((r : ℕ) → least ps ≡ Some r → Least r ps) → Least q (p ∷ ps)
    go None f e i =
        let k : p ≡ q = cc in
        let n : ps ≡ [] = none_least ps f in
        record { one = among_first q p ps (sym k); none = λ r h. within r h (omega arith) (λ j. never (rw n at j)) }
    go (Some s) f e i =
        let k : min p s ≡ q = cc in
        let l = i s f in
        record { one = first (dec_lt s p) k l; none = λ r h. within r h (omega arith) (λ j. let m = l.none r j in omega arith) }
      where
        first : Dec (s < p) → min p s ≡ q → Least s ps → among q (p ∷ ps) ≡ true
        first (yes h) k l = let m : q ≡ s = omega arith in subst (λ (r : ℕ). among r (p ∷ ps) ≡ true) (sym m) (among_there s p ps l.one)
        first (no h) k l = among_first q p ps (omega arith)

-- ---- of a document

document_accepted : (doc : List ℕ) (room : Room) (t : Tables Shown) → strict doc room ≡ accepted t → (breaches doc ≡ []) × (read doc room ≡ accepted t)
unfolding strict
document_accepted doc room t e = go (read doc room) (least (breaches doc)) refl refl e
  where
    go : (s : State Shown) (b : Option ℕ) → read doc room ≡ s → least (breaches doc) ≡ b → judged s b ≡ accepted t → (breaches doc ≡ []) × (read doc room ≡ accepted t)
    go begun b f g e = let z : ◌≡◌ {A = ℕ} 0 1 = cc in absurd (omega arith)
    go (reading fs u) b f g e = let z : ◌≡◌ {A = ℕ} 0 1 = cc in absurd (omega arith)
    go (accepted u) None f g e = (none_least (breaches doc) g, f ∙ e)
    go (accepted u) (Some p) f g e = let z : ◌≡◌ {A = ℕ} 0 1 = cc in absurd (omega arith)
    go (refused x) b f g e = let z : ◌≡◌ {A = ℕ} 0 1 = cc in absurd (omega arith)

document_none : (doc : List ℕ) (room : Room) (t : Tables Shown) → read doc room ≡ accepted t → breaches doc ≡ [] → strict doc room ≡ accepted t
unfolding strict least
document_none doc room t e f = rw (e, f)

document_some : (doc : List ℕ) (room : Room) (t : Tables Shown) → read doc room ≡ accepted t → empty (breaches doc) ≡ false → (p : ℕ) × (strict doc room ≡ refused (bare 29 p)) × (among p (breaches doc) ≡ true) × ((q : ℕ) → among q (breaches doc) ≡ true → p ≤ q)
unfolding strict
document_some doc room t e f = go (breaches doc) refl f
  where
    go : (ps : List ℕ) → breaches doc ≡ ps → empty ps ≡ false → (p : ℕ) × (strict doc room ≡ refused (bare 29 p)) × (among p (breaches doc) ≡ true) × ((q : ℕ) → among q (breaches doc) ≡ true → p ≤ q)
    go [] g f = never (sym f)
    go (p ∷ ps) g f =
        let q = some_least p ps in
        let k : least (breaches doc) ≡ Some q.0 = ap least g ∙ q.1 in
        let l = least_is (breaches doc) q.0 k in
        (q.0, rw (e, k), l.one, l.none)

document_refused : (doc : List ℕ) (room : Room) (x : Refusal) → read doc room ≡ refused x → strict doc room ≡ refused x
unfolding strict
document_refused doc room x e = rw e

-- ---- of a file

pub accepted_has_none : AcceptedHasNone
unfolding strict_file read_file
accepted_has_none raw room decoding_room t e = go (document_of raw decoding_room) refl e
  where
    go : (o : Text) → document_of raw decoding_room ≡ o → strict_text o room ≡ accepted t → (doc : List ℕ) × (o ≡ text doc) × (breaches doc ≡ []) × (read_text o room ≡ accepted t)
    go (text doc) f e = let d = document_accepted doc room t e in (doc, refl, d.0, d.1)
    go (wrong n p) f e = let z : ◌≡◌ {A = ℕ} 0 1 = cc in absurd (omega arith)

pub none_is_accepted : NoneIsAccepted
unfolding strict_file read_file
none_is_accepted raw doc room decoding_room t d e f = rw d (document_none doc room t (rw d at e) f)

pub some_is_refused : SomeIsRefused
unfolding strict_file read_file
some_is_refused raw doc room decoding_room t d e f = rw d (document_some doc room t (rw d at e) f)

pub refused_alike : RefusedAlike
unfolding strict_file read_file
refused_alike raw room decoding_room x e = go (document_of raw decoding_room) e
  where
    go : (o : Text) → read_text o room ≡ refused x → strict_text o room ≡ refused x
    go (text doc) e = document_refused doc room x e
    go (wrong n p) e = e
