-- Both scans of the stretch that holds the comment come to its end; so both documents have the same tokens.
use Prim.Native.Nat.{ℕ, zero, suc, ◌+◌, ◌-◌, ◌≤◌}
use mathlib.Core.Path.{◌≡◌, refl, sym, ap, subst, ◌∙◌}
use mathlib.Core.List.{List, [], ◌∷◌, ◌++◌}
use mathlib.Core.Bool.{Bool, true, false}
use borrow.Author.Tests.{eqb-true}
use native.Mathlib.Omega.{arith}
use lib.Dec.{eqb}
use lib.ListN.{length, drop}
use Rattle.std.specs.Prelude.{Result, Ok, Err}
use Rattle.faults.specs.declared.Fault.{Fault}
use Rattle.slices.specs.Bytes.{if, bytes, starts}
use Rattle.scan.specs.Ignorable.{seek, markup, further, ignorable_from, ignored}
use Rattle.scan.specs.declared.Markup.{Markup}
use Rattle.scan.specs.declared.Markup.TheVariants.{Tag, Ignored}
use Rattle.scan.proofs.Ignoring.{comment_bytes, taken}
use Rattle.document.specs.Elements.{among}
use Rattle.document.proofs.Tests.{never}
use Rattle.met.specs.Passed.{here, beyond, passed_from}
use Rattle.remarks.proofs.Local.{markup_local}

-- ---- a comment that is passed lies after the bytes that are taken

here_among : (c : ℕ) (l : List ℕ) (at : ℕ) (cs : List ℕ) → among c (here l at cs) ≡ true → (among c cs ≡ true → at ≤ c) → at ≤ c
here_among c l at cs e j = go (starts (bytes "!--") l) e
  where
    first : (t : Bool) → eqb c at ≡ t → if t true (among c cs) ≡ true → at ≤ c
    first true f e = let z = eqb-true c at f in omega arith
    first false f e = j e

    go : (t : Bool) → among c (if t (at ∷ cs) cs) ≡ true → at ≤ c
    go true e = first (eqb c at) refl e
    go false e = j e

pub passed_since : (c k : ℕ) (l : List ℕ) (at : ℕ) → among c (passed_from k l at) ≡ true → at + k ≤ c
passed_since c k [] at e = never e
passed_since c (suc k) (b ∷ l) at e = let z = passed_since c k l (suc at) e in omega arith
passed_since c zero (b ∷ l) at e = go (eqb b 60) e (λ k f. passed_since c k l (suc at) f)
  where
    marked : (m : Result Markup Fault) → among c (beyond m l at (λ p. passed_from (p - suc at) l (suc at))) ≡ true → ((k : ℕ) → among c (passed_from k l (suc at)) ≡ true → suc at + k ≤ c) → at + 0 ≤ c
    marked (Ok Tag) e i = never e
    marked (Err f) e i = never e
    marked (Ok (Ignored p)) e i =
        let z = here_among c l at (passed_from (p - suc at) l (suc at)) e (λ f. let y = i (p - suc at) f in omega arith) in
        omega arith

    go : (t : Bool) → among c (if t (beyond (markup l at) l at (λ p. passed_from (p - suc at) l (suc at))) (passed_from 0 l (suc at))) ≡ true → ((k : ℕ) → among c (passed_from k l (suc at)) ≡ true → suc at + k ≤ c) → at + 0 ≤ c
    go true e i = marked (markup l at) e i
    go false e i = let z = i 0 e in omega arith

-- ---- at the comment

-- passing on from the `<` of a comment at c that ends at e
comment_passed : (c e x y z : ℕ) (r : List ℕ) → (x ≡ 33) × (y ≡ 45) × (z ≡ 45) → seek 22 (bytes "-->") (c + 4) r (c + 4) ≡ Ok e → c + 7 ≤ e → e ≤ c + 4 + length r → further (markup (x ∷ y ∷ z ∷ r) c) c (λ p. ignorable_from (p - suc c) (x ∷ y ∷ z ∷ r) (suc c)) ≡ ignorable_from 0 (drop (e - (c + 4)) r) e
comment_passed c e x y z r w o h i =
    let m : markup (x ∷ y ∷ z ∷ r) c ≡ Ok (Ignored e) = rw (w.0, w.1, w.2) (ap ignored o) in
    let n : e - suc c ≡ suc (suc (suc (e - (c + 4)))) = omega arith in
    let q : suc c + (e - suc c) ≡ e = omega arith in
    let p : drop (e - suc c) (x ∷ y ∷ z ∷ r) ≡ drop (e - (c + 4)) r = rw n in
    rw m (taken (e - suc c) (x ∷ y ∷ z ∷ r) (suc c) (omega arith) ∙ rw (p, q))

-- ---- the stretch that holds the comment: s is what both documents have from a place to the comment's inside, r and r' what
-- follows in each

module _ (c e : ℕ) (r r' rest : List ℕ) (o : seek 22 (bytes "-->") (c + 4) r (c + 4) ≡ Ok e) (o' : seek 22 (bytes "-->") (c + 4) r' (c + 4) ≡ Ok e) (h : c + 7 ≤ e) (m : e ≤ c + 4 + length r) (m' : e ≤ c + 4 + length r') (y : drop (e - (c + 4)) r ≡ rest) (y' : drop (e - (c + 4)) r' ≡ rest) where
  -- both scans come to what both documents have after it
  abbrev pub Comes : Result ℕ Fault → Result ℕ Fault → Type 0
  Comes x x' = (x ≡ ignorable_from 0 rest e) × (x' ≡ ignorable_from 0 rest e)

  at_comment : (s : List ℕ) (at : ℕ) → suc at + length s ≡ c + 4 → at ≡ c → starts (bytes "!--") (s ++ r) ≡ true → Comes (further (markup (s ++ r) at) at (λ p. ignorable_from (p - suc at) (s ++ r) (suc at))) (further (markup (s ++ r') at) at (λ p. ignorable_from (p - suc at) (s ++ r') (suc at)))
  at_comment [] at l z f = absurd (omega arith)
  at_comment (p ∷ []) at l z f = absurd (omega arith)
  at_comment (p ∷ q ∷ []) at l z f = absurd (omega arith)
  at_comment (p ∷ q ∷ t ∷ u ∷ s) at l z f = absurd (omega arith)
  at_comment (p ∷ q ∷ t ∷ []) at l z f =
      let w = comment_bytes p q t r f in
      let run : List ℕ → ℕ → Result ℕ Fault = λ l a. further (markup (p ∷ q ∷ t ∷ l) a) a (λ i. ignorable_from (i - suc a) (p ∷ q ∷ t ∷ l) (suc a)) in
      let one : run r c ≡ ignorable_from 0 rest e = comment_passed c e p q t r w o h m ∙ rw y in
      let other : run r' c ≡ ignorable_from 0 rest e = comment_passed c e p q t r' w o' h m' ∙ rw y' in
      subst (λ (a : ℕ). Comes (run r a) (run r' a)) (sym z) (one, other)

  pub meets : (k : ℕ) (s : List ℕ) (at : ℕ) → at + length s ≡ c + 4 → among c (passed_from k (s ++ r) at) ≡ true → Comes (ignorable_from k (s ++ r) at) (ignorable_from k (s ++ r') at)
  meets k [] at l a = absurd (let z = passed_since c k r at a in omega arith)
  meets (suc k) (b ∷ s) at l a = meets k s (suc at) (omega arith) a
  meets zero (b ∷ s) at l a = go (eqb b 60) a (λ k f. meets k s (suc at) (omega arith) f)
    where
      With : Result Markup Fault → Type 0
      With x = Comes (further x at (λ p. ignorable_from (p - suc at) (s ++ r) (suc at))) (further (markup (s ++ r') at) at (λ p. ignorable_from (p - suc at) (s ++ r') (suc at)))

      Further : Type 0
      Further = (k : ℕ) → among c (passed_from k (s ++ r) (suc at)) ≡ true → Comes (ignorable_from k (s ++ r) (suc at)) (ignorable_from k (s ++ r') (suc at))

      -- the comment is further on
      later : (p : ℕ) → markup (s ++ r) at ≡ Ok (Ignored p) → among c (passed_from (p - suc at) (s ++ r) (suc at)) ≡ true → Further → With (Ok (Ignored p))
      later p f a i =
          let z = passed_since c (p - suc at) (s ++ r) (suc at) a in
          rw (markup_local r r' s at p f (omega arith)) (i (p - suc at) a)

      first : (p : ℕ) → markup (s ++ r) at ≡ Ok (Ignored p) → starts (bytes "!--") (s ++ r) ≡ true → (t : Bool) → eqb c at ≡ t → if t true (among c (passed_from (p - suc at) (s ++ r) (suc at))) ≡ true → Further → With (Ok (Ignored p))
      first p f g true w a i = rw f at (at_comment s at (omega arith) (sym (eqb-true c at w)) g)
      first p f g false w a i = later p f a i

      begins : (p : ℕ) → markup (s ++ r) at ≡ Ok (Ignored p) → (t : Bool) → starts (bytes "!--") (s ++ r) ≡ t → among c (if t (at ∷ passed_from (p - suc at) (s ++ r) (suc at)) (passed_from (p - suc at) (s ++ r) (suc at))) ≡ true → Further → With (Ok (Ignored p))
      begins p f true g a i = first p f g (eqb c at) refl a i
      begins p f false g a i = later p f a i

      marked : (x : Result Markup Fault) → markup (s ++ r) at ≡ x → among c (beyond x (s ++ r) at (λ p. passed_from (p - suc at) (s ++ r) (suc at))) ≡ true → Further → With x
      marked (Ok Tag) f a i = never a
      marked (Err x) f a i = never a
      marked (Ok (Ignored p)) f a i = begins p f (starts (bytes "!--") (s ++ r)) refl a i

      go : (t : Bool) → among c (if t (beyond (markup (s ++ r) at) (s ++ r) at (λ p. passed_from (p - suc at) (s ++ r) (suc at))) (passed_from 0 (s ++ r) (suc at))) ≡ true → Further → Comes (if t (further (markup (s ++ r) at) at (λ p. ignorable_from (p - suc at) (s ++ r) (suc at))) (ignorable_from 0 (s ++ r) (suc at))) (if t (further (markup (s ++ r') at) at (λ p. ignorable_from (p - suc at) (s ++ r') (suc at))) (ignorable_from 0 (s ++ r') (suc at)))
      go true a i = marked (markup (s ++ r) at) refl a i
      go false a i = i 0 a
