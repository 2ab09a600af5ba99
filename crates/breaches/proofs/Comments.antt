-- A comment that closes: where its inside ends, and the least breach in it.
use Prim.Native.Nat.{ℕ, suc, ◌+◌, ◌-◌, ◌≤◌}
use mathlib.Core.Path.{◌≡◌, sym, ◌∙◌}
use mathlib.Core.List.{List, [], ◌∷◌, append-nil}
use mathlib.Core.Bool.{Bool, true, false}
use borrow.Author.Rules.{rules}
use native.Mathlib.Numerals.{add-one}
use native.Mathlib.Omega.{arith}
use lib.Dec.{eqb}
use lib.ListN.{length, take, drop}
use lib.Seq.{drop-drop}
use Rattle.std.specs.Prelude.{Ok, Option, None}
use Rattle.slices.specs.Bytes.{if, bytes, starts}
use Rattle.scan.proofs.Marked.{ignored_place}
use Rattle.scan.specs.Ignorable.{Marks, seek, markup, ignored}
use Rattle.scan.specs.declared.Markup.TheVariants.{Ignored}
use Rattle.scan.proofs.Ignoring.{comment_bytes}
use Rattle.document.proofs.Tests.{never}
use Rattle.profile.specs.Places.{first_place}
use Rattle.profile.specs.Profile.{hyphens}
use Rattle.breaches.specs.Least.{least}
use Rattle.breaches.specs.Breaches.{places_of, in_comment}
use Rattle.breaches.specs.Outcome.{ignored_breach}

-- a key that is found stands at its first place
seek_first : (n : ℕ) (key : List ℕ) (c : ℕ) (l : List ℕ) (p q : ℕ) → seek n key c l p ≡ Ok q → q ≡ p + first_place (starts key) l + length key
seek_first n key c [] p q e = let z : ◌≡◌ {A = ℕ} 0 1 = cc in absurd (omega arith)
seek_first n key c (b ∷ l) p q e = go (starts key (b ∷ l)) e (λ f. seek_first n key c l (suc p) q f)
  where
    go : (t : Bool) → if t (Ok (p + length key)) (seek n key c l (suc p)) ≡ Ok q → (seek n key c l (suc p) ≡ Ok q → q ≡ suc p + first_place (starts key) l + length key) → q ≡ p + if t 0 (suc (first_place (starts key) l)) + length key
    go true e i = let z : p + length key ≡ q = cc in omega arith
    go false e i = let z = i e in omega arith

comment_seeks : (l : List ℕ) (at e : ℕ) → starts (bytes "!--") l ≡ true → markup l at ≡ Ok (Ignored e) → seek 22 (bytes "-->") (at + 4) (drop 3 l) (at + 4) ≡ Ok e
comment_seeks [] at e t m = never t
comment_seeks (x ∷ []) at e t m = never (go (eqb 33 x) t)
  where
    go : (u : Bool) → if u false false ≡ true → false ≡ true
    go true e = e
    go false e = e
comment_seeks (x ∷ y ∷ []) at e t m = never (go (eqb 33 x) (eqb 45 y) t)
  where
    go : (u v : Bool) → if u (if v false false) false ≡ true → false ≡ true
    go true true e = e
    go true false e = e
    go false v e = e
comment_seeks (x ∷ y ∷ z ∷ r) at e t m =
    let w = comment_bytes x y z r t in
    let k : ignored (seek 22 (bytes "-->") (at + 4) r (at + 4)) ≡ Ok (Ignored e) = rw (w.0, w.1, w.2) at m in
    ignored_place (seek 22 (bytes "-->") (at + 4) r (at + 4)) e k

module _ {doc : List ℕ} {at e : ℕ} (m : Marks doc at (Ok (Ignored e))) {t : Bool} (b : t ≡ starts (bytes "!--") (drop (at + 1) doc)) where
  module _ (c : t ≡ true) where
    ends : e ≡ at + 4 + first_place (starts (bytes "-->")) (drop (at + 4) doc) + 3
    ends =
        let k : starts (bytes "!--") (drop (suc at) doc) ≡ true = rw (← add-one at) (sym b ∙ c) in
        let q : suc at + 3 ≡ at + 4 = omega arith in
        let s = comment_seeks (drop (suc at) doc) at e k (sym m.is) in
        seek_first 22 (bytes "-->") (at + 4) (drop (at + 4) doc) (at + 4) e (rw (drop-drop 3 (suc at) doc, q) at s)

    pub comment_long : at + 7 ≤ e
    comment_long = omega (arith, ends)

    pub comment_inside : e ≤ length doc
    comment_inside = m.onward.1

    pub comment_told : {r : Option ℕ} → r ≡ least (places_of hyphens (take (e - 3 - (at + 4)) (drop (at + 4) doc)) (at + 4)) → r ≡ ignored_breach doc at
    unfolding in_comment
    comment_told q =
        let k : starts (bytes "!--") (drop (suc at) doc) ≡ true = rw (← add-one at) (sym b ∙ c) in
        let n : first_place (starts (bytes "-->")) (drop (at + 4) doc) ≡ e - 3 - (at + 4) = omega (arith, ends) in
        q ∙ rw (k, append-nil, n)

  pub other_told : t ≡ false → None ≡ ignored_breach doc at
  unfolding least
  other_told c =
      let k : starts (bytes "!--") (drop (suc at) doc) ≡ false = rw (← add-one at) (sym b ∙ c) in
      rw k

pub ruleset comments = (comment_long, comment_inside, comment_told, other_told, rules)
