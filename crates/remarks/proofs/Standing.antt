-- What stands at a comment's place, and before its end.
use Prim.Native.Nat.{ℕ, zero, suc, ◌+◌, ◌-◌, ◌≤◌}
use mathlib.Core.Path.{◌≡◌, refl, sym, ap, ◌∙◌}
use mathlib.Core.List.{List, [], ◌∷◌, ◌++◌}
use mathlib.Core.Bool.{Bool, true, false}
use borrow.Author.Tests.{eqb-true}
use native.Mathlib.Omega.{arith}
use native.Mathlib.Nat.{sub_self}
use lib.Dec.{eqb}
use lib.ListN.{length, drop}
use Rattle.std.specs.Prelude.{Result, Ok, Err}
use Rattle.faults.specs.declared.Fault.{Fault}
use Rattle.slices.specs.Bytes.{if, bytes, starts}
use Rattle.scan.specs.Ignorable.{seek, markup}
use Rattle.scan.specs.declared.Markup.{Markup}
use Rattle.scan.specs.declared.Markup.TheVariants.{Tag, Ignored}
use Rattle.document.specs.Elements.{among}
use Rattle.document.specs.Tokens.{Next, more, last, next}
use Rattle.document.proofs.Tests.{never, among_append}
use Rattle.met.specs.Passed.{beyond, passed_from}
use Rattle.remarks.proofs.Comments.{after, comments_from, comments}
use Rattle.remarks.proofs.Meeting.{passed_since}
use Rattle.remarks.proofs.Meets.{comments_since}

-- ---- a beginning, and what follows it

pub record Begins (key l : List ℕ) : Type 0 where
  pub rest : List ℕ
  pub is : l ≡ key ++ rest

pub starts_split : (key l : List ℕ) → starts key l ≡ true → Begins key l
starts_split [] l e = record { rest = l; is = refl }
starts_split (a ∷ k) [] e = never e
starts_split (a ∷ k) (b ∷ l) e = go (eqb a b) refl e (λ f. starts_split k l f)
  where
    go : (t : Bool) → eqb a b ≡ t → if t (starts k l) false ≡ true → (starts k l ≡ true → Begins k l) → Begins (a ∷ k) (b ∷ l)
    go true f e i = let r = i e in record { rest = r.rest; is = rw (eqb-true a b f) (ap (◌∷◌ b) r.is) }
    go false f e i = never e

-- a key that is found: what stands before it, and after it
pub record Found (key l : List ℕ) (p q : ℕ) : Type 0 where
  pub front : List ℕ
  pub rest : List ℕ
  pub is : l ≡ front ++ (key ++ rest)
  pub long : p + length front + length key ≡ q

pub seek_split : (n : ℕ) (key : List ℕ) (c : ℕ) (l : List ℕ) (p q : ℕ) → seek n key c l p ≡ Ok q → Found key l p q
seek_split n key c [] p q e = let z : ◌≡◌ {A = ℕ} 0 1 = cc in absurd (omega arith)
seek_split n key c (b ∷ l) p q e = go (starts key (b ∷ l)) refl e (λ f. seek_split n key c l (suc p) q f)
  where
    go : (t : Bool) → starts key (b ∷ l) ≡ t → if t (Ok (p + length key)) (seek n key c l (suc p)) ≡ Ok q → (seek n key c l (suc p) ≡ Ok q → Found key l (suc p) q) → Found key (b ∷ l) p q
    go true f e i =
        let r = starts_split key (b ∷ l) f in
        let z : p + length key ≡ q = cc in
        record { front = []; rest = r.rest; is = r.is; long = omega arith }
    go false f e i =
        let r = i e in
        record { front = b ∷ r.front; rest = r.rest; is = ap (◌∷◌ b) r.is; long = omega (arith, r.long) }

-- ---- a comment's place

module _ (c : ℕ) where
  -- `<!--` stands there
  abbrev Stands : List ℕ → ℕ → Type 0
  Stands l at = starts (bytes "<!--") (drop (c - at) l) ≡ true

  on : (b : ℕ) (l : List ℕ) (at : ℕ) → suc at ≤ c → Stands l (suc at) → Stands (b ∷ l) at
  on b l at h s = let n : c - at ≡ suc (c - suc at) = omega arith in rw n s

  passed_stands : (k : ℕ) (l : List ℕ) (at : ℕ) → among c (passed_from k l at) ≡ true → Stands l at
  passed_stands k [] at e = never e
  passed_stands (suc k) (b ∷ l) at e = let z = passed_since c k l (suc at) e in on b l at (omega arith) (passed_stands k l (suc at) e)
  passed_stands zero (b ∷ l) at e = go (eqb b 60) refl e (λ k f. passed_stands k l (suc at) f)
    where
      Further : Type 0
      Further = (k : ℕ) → among c (passed_from k l (suc at)) ≡ true → Stands l (suc at)

      later : (k : ℕ) → among c (passed_from k l (suc at)) ≡ true → Further → Stands (b ∷ l) at
      later k e i = let z = passed_since c k l (suc at) e in on b l at (omega arith) (i k e)

      first : (k : ℕ) → b ≡ 60 → starts (bytes "!--") l ≡ true → (t : Bool) → eqb c at ≡ t → if t true (among c (passed_from k l (suc at))) ≡ true → Further → Stands (b ∷ l) at
      first k f g true w e i =
          let z : c - at ≡ 0 = rw (eqb-true c at w) (sub_self at) in
          rw (z, f) g
      first k f g false w e i = later k e i

      begins : (k : ℕ) → b ≡ 60 → (t : Bool) → starts (bytes "!--") l ≡ t → among c (if t (at ∷ passed_from k l (suc at)) (passed_from k l (suc at))) ≡ true → Further → Stands (b ∷ l) at
      begins k f true g e i = first k f g (eqb c at) refl e i
      begins k f false g e i = later k e i

      marked : (x : Result Markup Fault) → b ≡ 60 → among c (beyond x l at (λ p. passed_from (p - suc at) l (suc at))) ≡ true → Further → Stands (b ∷ l) at
      marked (Ok Tag) f e i = never e
      marked (Err x) f e i = never e
      marked (Ok (Ignored p)) f e i = begins (p - suc at) f (starts (bytes "!--") l) refl e i

      go : (t : Bool) → eqb b 60 ≡ t → among c (if t (beyond (markup l at) l at (λ p. passed_from (p - suc at) l (suc at))) (passed_from 0 l (suc at))) ≡ true → Further → Stands (b ∷ l) at
      go true f e i = marked (markup l at) (eqb-true b 60 f) e i
      go false f e i = later 0 e i

  comments_stand : (k : ℕ) (l : List ℕ) (at : ℕ) → among c (comments_from k l at) ≡ true → Stands l at
  comments_stand k [] at e = never e
  comments_stand (suc k) (b ∷ l) at e = let z = comments_since c k l (suc at) e in on b l at (omega arith) (comments_stand k l (suc at) e)
  comments_stand zero (b ∷ l) at e =
      go (among c (passed_from 0 (b ∷ l) at)) refl (sym (among_append c (passed_from 0 (b ∷ l) at) (after (next (b ∷ l) at) (λ p. comments_from (p - suc at) l (suc at)))) ∙ e) (λ k f. comments_stand k l (suc at) f)
    where
      further : (n : Next) → among c (after n (λ p. comments_from (p - suc at) l (suc at))) ≡ true → ((k : ℕ) → among c (comments_from k l (suc at)) ≡ true → Stands l (suc at)) → Stands (b ∷ l) at
      further (more t p) e i = let z = comments_since c (p - suc at) l (suc at) e in on b l at (omega arith) (i (p - suc at) e)
      further (last t) e i = never e

      go : (t : Bool) → among c (passed_from 0 (b ∷ l) at) ≡ t → if t true (among c (after (next (b ∷ l) at) (λ p. comments_from (p - suc at) l (suc at)))) ≡ true → ((k : ℕ) → among c (comments_from k l (suc at)) ≡ true → Stands l (suc at)) → Stands (b ∷ l) at
      go true f e i = passed_stands 0 (b ∷ l) at f
      go false f e i = further (next (b ∷ l) at) e i

  -- at the place of a comment of a document stands `<!--`
  pub comment_stands : (doc : List ℕ) → among c (comments doc) ≡ true → starts (bytes "<!--") (drop c doc) ≡ true
  unfolding comments
  comment_stands doc e = let n : c - 0 ≡ c = omega arith in rw n at (comments_stand 0 doc 0 e)
