-- A tag that ends within a part of a document is the same token whatever follows that part.
use Prim.Native.Nat.{ℕ, zero, suc, ◌+◌, ◌-◌, ◌≤◌, ◌<◌}
use mathlib.Core.Path.{◌≡◌, refl, sym, ap, ◌∙◌}
use mathlib.Core.List.{List, [], ◌∷◌, ◌++◌}
use mathlib.Core.Bool.{Bool, true, false}
use borrow.Author.Tests.{eqb-true}
use native.Mathlib.Omega.{arith}
use lib.Dec.{eqb}
use lib.ListN.{length, drop, length-drop}
use lib.Seq.{drop-append-le}
use Rattle.std.specs.Prelude.{Result, Ok, Err}
use Rattle.faults.specs.declared.Fault.{Fault}
use Rattle.slices.specs.Bytes.{if, other, span, past, empty}
use Rattle.scan.specs.Classes.{white, name_byte}
use Rattle.scan.specs.Ignorable.{quote, ignorable}
use Rattle.document.specs.Tags.{Attr, Found, absent, found, close_quote, open_quote, equals, named, spaced, attribute, Gathered, gathered, too_many, with, another, no_more, gather, Shown, Checked, good, check}
use Rattle.document.specs.Tags as tags
use Rattle.document.specs.Tokens.{Token, close, fault, more, last, tagged, slash_end, tag_end, with_shown, with_attrs, opening, close_end, closing, tag, tag_or_end, past_ignorable, next}
use Rattle.document.proofs.Ignorables.{Scanned, ignorable_within}
use Rattle.remarks.proofs.Local.{ignorable_local}

-- ---- a run that ends within a part

pub record Cut (p : ℕ → Bool) (s r : List ℕ) : Type 0 where
  pub rest : List ℕ
  pub run : (x : List ℕ) → span p (s ++ x) ≡ span p (s ++ r)
  pub left : (x : List ℕ) → past p (s ++ x) ≡ rest ++ x
  pub long : length (span p (s ++ r)) + length rest ≡ length s

pub cut : (p : ℕ → Bool) (s r : List ℕ) → length (span p (s ++ r)) < length s → Cut p s r
cut p [] r h = absurd (omega arith)
cut p (b ∷ s) r h = go (p b) refl h (λ i. cut p s r i)
  where
    go : (t : Bool) → p b ≡ t → length (if t (b ∷ span p (s ++ r)) []) < suc (length s) → (length (span p (s ++ r)) < length s → Cut p s r) → Cut p (b ∷ s) r
    go false f h i = record { rest = b ∷ s; run = λ x. rw f; left = λ x. rw f; long = rw f (omega arith) }
    go true f h i =
        let c = i (omega arith) in
        record { rest = c.rest; run = λ x. rw f (ap (◌∷◌ b) (c.run x)); left = λ x. rw f (c.left x); long = rw f (omega (arith, c.long)) }

-- ---- an attribute

-- the answer with r', where l was left with r
abbrev Goes : Found → List ℕ → List ℕ → ℕ → Attr → List ℕ → ℕ → Type 0
Goes f r r' top a l q = (s : List ℕ) × (l ≡ s ++ r) × (f ≡ found a (s ++ r') q) × (q + length s ≡ top)

close_after : (a a' : Attr) (l l' : List ℕ) (p q : ℕ) → close_quote a l p ≡ found a' l' q → p < q
close_after a a' [] l' p q e = let z : ◌≡◌ {A = ℕ} 0 1 = cc in absurd (omega arith)
close_after a a' (b ∷ l) l' p q e = let z : suc p ≡ q = cc in omega arith

open_after : (at : ℕ) (n : List ℕ) (a : Attr) (l l' : List ℕ) (p q : ℕ) → open_quote at n l p ≡ found a l' q → p < q
open_after at n a [] l' p q e = let z : ◌≡◌ {A = ℕ} 0 1 = cc in absurd (omega arith)
open_after at n a (b ∷ l) l' p q e = go (quote b) e
  where
    go : (t : Bool) → if t (close_quote (record { at = at; name = n; valued = suc p; raw = span (other b) l }) (past (other b) l) (suc p + length (span (other b) l))) absent ≡ found a l' q → p < q
    go true e = let z = close_after _ a (past (other b) l) l' (suc p + length (span (other b) l)) q e in omega arith
    go false e = let z : ◌≡◌ {A = ℕ} 0 1 = cc in absurd (omega arith)

equals_after : (at : ℕ) (n : List ℕ) (a : Attr) (l l' : List ℕ) (p q : ℕ) → equals at n l p ≡ found a l' q → p < q
equals_after at n a [] l' p q e = let z : ◌≡◌ {A = ℕ} 0 1 = cc in absurd (omega arith)
equals_after at n a (b ∷ l) l' p q e = go (eqb b 61) e
  where
    go : (t : Bool) → if t (open_quote at n (past white l) (suc p + length (span white l))) absent ≡ found a l' q → p < q
    go true e = let z = open_after at n a (past white l) l' (suc p + length (span white l)) q e in omega arith
    go false e = let z : ◌≡◌ {A = ℕ} 0 1 = cc in absurd (omega arith)

named_after : (at : ℕ) (n : List ℕ) (a : Attr) (l l' : List ℕ) (p q : ℕ) → named at n l p ≡ found a l' q → p < q
named_after at n a l l' p q e = go (empty n) e
  where
    go : (t : Bool) → if t absent (equals at n (past white l) (p + length (span white l))) ≡ found a l' q → p < q
    go true e = let z : ◌≡◌ {A = ℕ} 0 1 = cc in absurd (omega arith)
    go false e = let z = equals_after at n a (past white l) l' (p + length (span white l)) q e in omega arith

spaced_after : (w : List ℕ) (a : Attr) (l l' : List ℕ) (p q : ℕ) → spaced w l p ≡ found a l' q → p < q
spaced_after w a l l' p q e = go (empty w) e
  where
    go : (t : Bool) → if t absent (named p (span name_byte l) (past name_byte l) (p + length (span name_byte l))) ≡ found a l' q → p < q
    go true e = let z : ◌≡◌ {A = ℕ} 0 1 = cc in absurd (omega arith)
    go false e = let z = named_after p (span name_byte l) a (past name_byte l) l' (p + length (span name_byte l)) q e in omega arith

pub attribute_after : (a : Attr) (l l' : List ℕ) (p q : ℕ) → attribute l p ≡ found a l' q → p < q
unfolding attribute
attribute_after a l l' p q e = let z = spaced_after (span white l) a (past white l) l' (p + length (span white l)) q e in omega arith

module _ (r r' : List ℕ) where
  close_local : (a a' : Attr) (s l : List ℕ) (p q : ℕ) → close_quote a (s ++ r) p ≡ found a' l q → q ≤ p + length s → Goes (close_quote a (s ++ r') p) r r' (p + length s) a' l q
  close_local a a' [] l p q e h = absurd (let z = close_after a a' r l p q e in omega arith)
  close_local a a' (b ∷ s) l p q e h =
      let x : a ≡ a' = cc in
      let y : s ++ r ≡ l = cc in
      let z : suc p ≡ q = cc in
      (s, sym y, rw (x, z), omega arith)

  open_local : (at : ℕ) (n : List ℕ) (a : Attr) (s l : List ℕ) (p q : ℕ) → open_quote at n (s ++ r) p ≡ found a l q → q ≤ p + length s → Goes (open_quote at n (s ++ r') p) r r' (p + length s) a l q
  open_local at n a [] l p q e h = absurd (let z = open_after at n a r l p q e in omega arith)
  open_local at n a (b ∷ s) l p q e h = go (quote b) e
    where
      go : (t : Bool) → if t (close_quote (record { at = at; name = n; valued = suc p; raw = span (other b) (s ++ r) }) (past (other b) (s ++ r)) (suc p + length (span (other b) (s ++ r)))) absent ≡ found a l q → Goes (if t (close_quote (record { at = at; name = n; valued = suc p; raw = span (other b) (s ++ r') }) (past (other b) (s ++ r')) (suc p + length (span (other b) (s ++ r')))) absent) r r' (p + suc (length s)) a l q
      go false e = let z : ◌≡◌ {A = ℕ} 0 1 = cc in absurd (omega arith)
      go true e =
          let z = close_after _ a (past (other b) (s ++ r)) l (suc p + length (span (other b) (s ++ r))) q e in
          let c = cut (other b) s r (omega arith) in
          let g = close_local (record { at = at; name = n; valued = suc p; raw = span (other b) (s ++ r) }) a c.rest l (suc p + length (span (other b) (s ++ r))) q (rw (c.left r) at e) (omega (arith, c.long)) in
          (g.0, g.1, rw (c.run r', c.left r') g.2, omega (arith, g.3, c.long))

  equals_local : (at : ℕ) (n : List ℕ) (a : Attr) (s l : List ℕ) (p q : ℕ) → equals at n (s ++ r) p ≡ found a l q → q ≤ p + length s → Goes (equals at n (s ++ r') p) r r' (p + length s) a l q
  equals_local at n a [] l p q e h = absurd (let z = equals_after at n a r l p q e in omega arith)
  equals_local at n a (b ∷ s) l p q e h = go (eqb b 61) e
    where
      go : (t : Bool) → if t (open_quote at n (past white (s ++ r)) (suc p + length (span white (s ++ r)))) absent ≡ found a l q → Goes (if t (open_quote at n (past white (s ++ r')) (suc p + length (span white (s ++ r')))) absent) r r' (p + suc (length s)) a l q
      go false e = let z : ◌≡◌ {A = ℕ} 0 1 = cc in absurd (omega arith)
      go true e =
          let z = open_after at n a (past white (s ++ r)) l (suc p + length (span white (s ++ r))) q e in
          let c = cut white s r (omega arith) in
          let g = open_local at n a c.rest l (suc p + length (span white (s ++ r))) q (rw (c.left r) at e) (omega (arith, c.long)) in
          (g.0, g.1, rw (c.run r', c.left r') g.2, omega (arith, g.3, c.long))

  named_local : (at : ℕ) (n : List ℕ) (a : Attr) (s l : List ℕ) (p q : ℕ) → named at n (s ++ r) p ≡ found a l q → q ≤ p + length s → Goes (named at n (s ++ r') p) r r' (p + length s) a l q
  named_local at n a s l p q e h = go (empty n) e
    where
      go : (t : Bool) → if t absent (equals at n (past white (s ++ r)) (p + length (span white (s ++ r)))) ≡ found a l q → Goes (if t absent (equals at n (past white (s ++ r')) (p + length (span white (s ++ r'))))) r r' (p + length s) a l q
      go true e = let z : ◌≡◌ {A = ℕ} 0 1 = cc in absurd (omega arith)
      go false e =
          let z = equals_after at n a (past white (s ++ r)) l (p + length (span white (s ++ r))) q e in
          let c = cut white s r (omega arith) in
          let g = equals_local at n a c.rest l (p + length (span white (s ++ r))) q (rw (c.left r) at e) (omega (arith, c.long)) in
          (g.0, g.1, rw (c.run r', c.left r') g.2, omega (arith, g.3, c.long))

  spaced_local : (w : List ℕ) (a : Attr) (s l : List ℕ) (p q : ℕ) → spaced w (s ++ r) p ≡ found a l q → q ≤ p + length s → Goes (spaced w (s ++ r') p) r r' (p + length s) a l q
  spaced_local w a s l p q e h = go (empty w) e
    where
      go : (t : Bool) → if t absent (named p (span name_byte (s ++ r)) (past name_byte (s ++ r)) (p + length (span name_byte (s ++ r)))) ≡ found a l q → Goes (if t absent (named p (span name_byte (s ++ r')) (past name_byte (s ++ r')) (p + length (span name_byte (s ++ r'))))) r r' (p + length s) a l q
      go true e = let z : ◌≡◌ {A = ℕ} 0 1 = cc in absurd (omega arith)
      go false e =
          let z = named_after p (span name_byte (s ++ r)) a (past name_byte (s ++ r)) l (p + length (span name_byte (s ++ r))) q e in
          let c = cut name_byte s r (omega arith) in
          let g = named_local p (span name_byte (s ++ r)) a c.rest l (p + length (span name_byte (s ++ r))) q (rw (c.left r) at e) (omega (arith, c.long)) in
          (g.0, g.1, rw (c.run r', c.left r') g.2, omega (arith, g.3, c.long))

  pub attribute_local : (a : Attr) (s l : List ℕ) (p q : ℕ) → attribute (s ++ r) p ≡ found a l q → q ≤ p + length s → Goes (attribute (s ++ r') p) r r' (p + length s) a l q
  unfolding attribute
  attribute_local a s l p q e h =
      let z = spaced_after (span white (s ++ r)) a (past white (s ++ r)) l (p + length (span white (s ++ r))) q e in
      let c = cut white s r (omega arith) in
      let g = spaced_local (span white (s ++ r)) a c.rest l (p + length (span white (s ++ r))) q (rw (c.left r) at e) (omega (arith, c.long)) in
      (g.0, g.1, rw (c.run r', c.left r') g.2, omega (arith, g.3, c.long))

-- ---- the attributes of a tag

gather_after : (n : ℕ) (xs : List Attr) (l l' : List ℕ) (p q : ℕ) → gather n l p ≡ gathered xs l' q → p ≤ q
unfolding gather
gather_after zero xs l l' p q e = go (attribute l p) e
  where
    go : (f : Found) → no_more f l p ≡ gathered xs l' q → p ≤ q
    go absent e = let z : p ≡ q = cc in omega arith
    go (found a m x) e = let z : ◌≡◌ {A = ℕ} 0 1 = cc in absurd (omega arith)
gather_after (suc n) xs l l' p q e = go (attribute l p) refl e (λ m x ys f. gather_after n ys m l' x q f)
  where
    taken : (a : Attr) (x : ℕ) (g : Gathered) → with a g ≡ gathered xs l' q → ((ys : List Attr) → g ≡ gathered ys l' q → x ≤ q) → x ≤ q
    taken a x (gathered ys k y) e i =
        let u : k ≡ l' = cc in
        let v : y ≡ q = cc in
        i ys (rw (u, v))
    taken a x (too_many y) e i = let z : ◌≡◌ {A = ℕ} 0 1 = cc in absurd (omega arith)

    go : (f : Found) → attribute l p ≡ f → another f l p (λ m x. gather n m x) ≡ gathered xs l' q → ((m : List ℕ) (x : ℕ) (ys : List Attr) → gather n m x ≡ gathered ys l' q → x ≤ q) → p ≤ q
    go absent w e i = let z : p ≡ q = cc in omega arith
    go (found a m x) w e i =
        let z = attribute_after a l m p x w in
        let y = taken a x (gather n m x) e (λ ys f. i m x ys f) in
        omega arith

-- the answer with r', where l was left with r
abbrev Gathers : Gathered → List ℕ → List ℕ → ℕ → List Attr → List ℕ → ℕ → Type 0
Gathers g r r' top xs l q = (s : List ℕ) × (l ≡ s ++ r) × (g ≡ gathered xs (s ++ r') q) × (q + length s ≡ top)

module _ (r r' : List ℕ) (xs₀ : List Attr) (l : List ℕ) (q : ℕ) where
  -- where the attributes end there is none with r' either
  abbrev Stop : ℕ → Type 0
  Stop top = (s : List ℕ) → l ≡ s ++ r → q + length s ≡ top → attribute (s ++ r') q ≡ absent

  gather_local : (n : ℕ) (xs : List Attr) (s : List ℕ) (p : ℕ) → gather n (s ++ r) p ≡ gathered xs l q → q ≤ p + length s → Stop (p + length s) → Gathers (gather n (s ++ r') p) r r' (p + length s) xs l q
  unfolding gather
  gather_local zero xs s p e h stop = go (attribute (s ++ r) p) e
    where
      go : (f : Found) → no_more f (s ++ r) p ≡ gathered xs l q → Gathers (no_more (attribute (s ++ r') p) (s ++ r') p) r r' (p + length s) xs l q
      go absent e =
          let x : [] ≡ xs = cc in
          let y : s ++ r ≡ l = cc in
          let z : p ≡ q = cc in
          (s, sym y, rw (rw (← z) at (stop s (sym y) (omega arith)), x, z), omega arith)
      go (found a m x) e = let z : ◌≡◌ {A = ℕ} 0 1 = cc in absurd (omega arith)
  gather_local (suc n) xs s p e h stop = go (attribute (s ++ r) p) refl e (λ ys t x f g k. gather_local n ys t x f g k)
    where
      taken : (a : Attr) (m : List ℕ) (x : ℕ) → attribute (s ++ r) p ≡ found a m x → (g : Gathered) → gather n m x ≡ g → with a g ≡ gathered xs l q → ((ys : List Attr) (t : List ℕ) (x : ℕ) → gather n (t ++ r) x ≡ gathered ys l q → q ≤ x + length t → Stop (x + length t) → Gathers (gather n (t ++ r') x) r r' (x + length t) ys l q) → Gathers (another (attribute (s ++ r') p) (s ++ r') p (λ m x. gather n m x)) r r' (p + length s) xs l q
      taken a m x w (too_many y) v e i = let z : ◌≡◌ {A = ℕ} 0 1 = cc in absurd (omega arith)
      taken a m x w (gathered ys k y) v e i =
          let u : a ∷ ys ≡ xs = cc in
          let f : k ≡ l = cc in
          let g : y ≡ q = cc in
          let o : gather n m x ≡ gathered ys l q = v ∙ rw (f, g) in
          let b = gather_after n ys m l x q o in
          let c = attribute_local r r' a s m p x w (omega arith) in
          let d = i ys c.0 x (rw c.1 at o) (omega (arith, c.3)) (λ t j k. stop t j (omega (arith, c.3))) in
          (d.0, d.1, rw c.2 (ap (with a) d.2 ∙ ap (λ zs. gathered zs (d.0 ++ r') q) u), omega (arith, d.3, c.3))

      go : (f : Found) → attribute (s ++ r) p ≡ f → another f (s ++ r) p (λ m x. gather n m x) ≡ gathered xs l q → ((ys : List Attr) (t : List ℕ) (x : ℕ) → gather n (t ++ r) x ≡ gathered ys l q → q ≤ x + length t → Stop (x + length t) → Gathers (gather n (t ++ r') x) r r' (x + length t) ys l q) → Gathers (another (attribute (s ++ r') p) (s ++ r') p (λ m x. gather n m x)) r r' (p + length s) xs l q
      go absent w e i =
          let x : [] ≡ xs = cc in
          let y : s ++ r ≡ l = cc in
          let z : p ≡ q = cc in
          (s, sym y, rw (rw (← z) at (stop s (sym y) (omega arith)), x, z), omega arith)
      go (found a m x) w e i = taken a m x w (gather n m x) refl e i

-- ---- the tag's end

slash_after : (at : ℕ) (n : List ℕ) (xs : List Shown) (l : List ℕ) (p : ℕ) (t : Token) (q : ℕ) → slash_end at n xs l p ≡ more t q → suc p < q
slash_after at n xs [] p t q e = let z : ◌≡◌ {A = ℕ} 0 1 = cc in absurd (omega arith)
slash_after at n xs (b ∷ l) p t q e = go (eqb b 62) e
  where
    go : (u : Bool) → if u (tagged at n xs true (suc (suc p))) (last (fault 4 p)) ≡ more t q → suc p < q
    go true e = let z : suc (suc p) ≡ q = cc in omega arith
    go false e = let z : ◌≡◌ {A = ℕ} 0 1 = cc in absurd (omega arith)

end_after : (at : ℕ) (n : List ℕ) (xs : List Shown) (l : List ℕ) (p : ℕ) (t : Token) (q : ℕ) → tag_end at n xs l p ≡ more t q → p < q
end_after at n xs [] p t q e = let z : ◌≡◌ {A = ℕ} 0 1 = cc in absurd (omega arith)
end_after at n xs (b ∷ l) p t q e = go (eqb b 62) (eqb b 47) e
  where
    go : (u v : Bool) → if u (tagged at n xs false (suc p)) (if v (slash_end at n xs l p) (last (fault 4 p))) ≡ more t q → p < q
    go true v e = let z : suc p ≡ q = cc in omega arith
    go false true e = let z = slash_after at n xs l p t q e in omega arith
    go false false e = let z : ◌≡◌ {A = ℕ} 0 1 = cc in absurd (omega arith)

module _ (r r' : List ℕ) (at : ℕ) (n : List ℕ) (xs : List Shown) (t : Token) (q : ℕ) where
  slash_local : (s : List ℕ) (p : ℕ) → slash_end at n xs (s ++ r) p ≡ more t q → q ≤ suc p + length s → slash_end at n xs (s ++ r') p ≡ more t q
  slash_local [] p e h = absurd (let z = slash_after at n xs r p t q e in omega arith)
  slash_local (b ∷ s) p e h = e

  end_local : (s : List ℕ) (p : ℕ) → tag_end at n xs (s ++ r) p ≡ more t q → q ≤ p + length s → tag_end at n xs (s ++ r') p ≡ more t q
  end_local [] p e h = absurd (let z = end_after at n xs r p t q e in omega arith)
  end_local (b ∷ s) p e h = go (eqb b 62) (eqb b 47) e
    where
      go : (u v : Bool) → if u (tagged at n xs false (suc p)) (if v (slash_end at n xs (s ++ r) p) (last (fault 4 p))) ≡ more t q → if u (tagged at n xs false (suc p)) (if v (slash_end at n xs (s ++ r') p) (last (fault 4 p))) ≡ more t q
      go true v e = e
      go false true e = slash_local s p e (omega arith)
      go false false e = e

  -- it begins with a byte of no name
  end_begins : (s : List ℕ) (p : ℕ) → tag_end at n xs (s ++ r) p ≡ more t q → q ≤ p + length s → span name_byte (s ++ r') ≡ []
  end_begins [] p e h = absurd (let z = end_after at n xs r p t q e in omega arith)
  end_begins (b ∷ s) p e h = go (eqb b 62) refl (eqb b 47) refl e
    where
      go : (u : Bool) → eqb b 62 ≡ u → (v : Bool) → eqb b 47 ≡ v → if u (tagged at n xs false (suc p)) (if v (slash_end at n xs (s ++ r) p) (last (fault 4 p))) ≡ more t q → span name_byte (b ∷ s ++ r') ≡ []
      go true f v g e = let z = eqb-true b 62 f in rw z
      go false f true g e = let z = eqb-true b 47 g in rw z
      go false f false g e = cc

no_attribute : (l : List ℕ) (p : ℕ) → span name_byte (past white l) ≡ [] → attribute l p ≡ absent
unfolding attribute
no_attribute l p e = go (empty (span white l))
  where
    go : (t : Bool) → if t absent (named (p + length (span white l)) (span name_byte (past white l)) (past name_byte (past white l)) (p + length (span white l) + length (span name_byte (past white l)))) ≡ absent
    go true = refl
    go false = rw e

-- ---- start tags

shown_after : (at : ℕ) (n : List ℕ) (c : Checked) (l : List ℕ) (p : ℕ) (t : Token) (q : ℕ) → with_shown at n c l p ≡ more t q → p < q
shown_after at n (tags.fault k x) l p t q e = let z : ◌≡◌ {A = ℕ} 0 1 = cc in absurd (omega arith)
shown_after at n (good xs) l p t q e = let z = end_after at n xs (past white l) (p + length (span white l)) t q e in omega arith

attrs_after : (k at : ℕ) (n l : List ℕ) (p : ℕ) (t : Token) (q : ℕ) → with_attrs at n (gather k l p) ≡ more t q → p < q
attrs_after k at n l p t q e = go (gather k l p) refl e
  where
    go : (g : Gathered) → gather k l p ≡ g → with_attrs at n g ≡ more t q → p < q
    go (gathered xs m x) f e =
        let a = gather_after k xs l m p x f in
        let b = shown_after at n (check [] xs) m x t q e in
        omega arith
    go (too_many x) f e = let z : ◌≡◌ {A = ℕ} 0 1 = cc in absurd (omega arith)

module _ (r r' : List ℕ) (k at : ℕ) (n : List ℕ) (t : Token) (q : ℕ) where
  attrs_local : (s : List ℕ) (p : ℕ) → with_attrs at n (gather k (s ++ r) p) ≡ more t q → q ≤ p + length s → with_attrs at n (gather k (s ++ r') p) ≡ more t q
  attrs_local s p e h = go (gather k (s ++ r) p) refl e
    where
      checked : (xs : List Attr) (m : List ℕ) (x : ℕ) → gather k (s ++ r) p ≡ gathered xs m x → (c : Checked) → check [] xs ≡ c → with_shown at n c m x ≡ more t q → with_attrs at n (gather k (s ++ r') p) ≡ more t q
      checked xs m x f (tags.fault j y) g e = cc
      checked xs m x f (good ss) g e =
          let b = gather_after k xs (s ++ r) m p x f in
          let a = end_after at n ss (past white m) (x + length (span white m)) t q e in
          let d = gather_local r r' xs m x k xs s p f (omega arith) (λ u i j.
          let o : length (span white (u ++ r)) < length u = rw (← i) (omega arith) in
          let c = cut white u r o in
          no_attribute (u ++ r') x (rw (c.left r') (end_begins r r' at n ss t q c.rest (x + length (span white (u ++ r))) (rw (← c.left r, ← i) e) (omega (arith, c.long, j))))) in
          let o : length (span white (d.0 ++ r)) < length d.0 = rw (← d.1) (omega (arith, d.3)) in
          let c = cut white d.0 r o in
          rw (d.2, g, c.run r', c.left r')
          (end_local r r' at n ss t q c.rest (x + length (span white (d.0 ++ r))) (rw (← c.left r, ← d.1) e) (omega (arith, c.long, d.3)))

      go : (g : Gathered) → gather k (s ++ r) p ≡ g → with_attrs at n g ≡ more t q → with_attrs at n (gather k (s ++ r') p) ≡ more t q
      go (gathered xs m x) f e = checked xs m x f (check [] xs) refl e
      go (too_many x) f e = cc
      -- after `<`

pub opening_local : (r r' : List ℕ) (at : ℕ) (t : Token) (q : ℕ) (s : List ℕ) → opening (s ++ r) at ≡ more t q → q ≤ suc at + length s → opening (s ++ r') at ≡ more t q
unfolding opening
opening_local r r' at t q s e h = go (empty (span name_byte (s ++ r))) refl e
  where
    go : (u : Bool) → empty (span name_byte (s ++ r)) ≡ u → if u (last (fault 4 (suc at))) (with_attrs at (span name_byte (s ++ r)) (gather 256 (past name_byte (s ++ r)) (suc at + length (span name_byte (s ++ r))))) ≡ more t q → if (empty (span name_byte (s ++ r'))) (last (fault 4 (suc at))) (with_attrs at (span name_byte (s ++ r')) (gather 256 (past name_byte (s ++ r')) (suc at + length (span name_byte (s ++ r'))))) ≡ more t q
    go true f e = cc
    go false f e =
        let a = attrs_after 256 at (span name_byte (s ++ r)) (past name_byte (s ++ r)) (suc at + length (span name_byte (s ++ r))) t q e in
        let c = cut name_byte s r (omega arith) in
        rw (c.run r', f, c.left r')
        (attrs_local r r' 256 at (span name_byte (s ++ r)) t q c.rest (suc at + length (span name_byte (s ++ r))) (rw (← c.left r) e) (omega (arith, c.long)))

-- ---- closing tags

shut_after : (at : ℕ) (n l : List ℕ) (p : ℕ) (t : Token) (q : ℕ) → close_end at n l p ≡ more t q → p < q
shut_after at n [] p t q e = let z : ◌≡◌ {A = ℕ} 0 1 = cc in absurd (omega arith)
shut_after at n (b ∷ l) p t q e = go (eqb b 62) e
  where
    go : (u : Bool) → if u (more (close at n (suc p)) (suc p)) (last (fault 4 (suc at))) ≡ more t q → p < q
    go true e = let z : suc p ≡ q = cc in omega arith
    go false e = let z : ◌≡◌ {A = ℕ} 0 1 = cc in absurd (omega arith)

shut_local : (r r' : List ℕ) (at : ℕ) (n : List ℕ) (t : Token) (q : ℕ) (s : List ℕ) (p : ℕ) → close_end at n (s ++ r) p ≡ more t q → q ≤ p + length s → close_end at n (s ++ r') p ≡ more t q
shut_local r r' at n t q [] p e h = absurd (let z = shut_after at n r p t q e in omega arith)
shut_local r r' at n t q (b ∷ s) p e h = e

pub closing_local : (r r' : List ℕ) (at : ℕ) (t : Token) (q : ℕ) (s : List ℕ) → closing (s ++ r) at ≡ more t q → q ≤ suc (suc at) + length s → closing (s ++ r') at ≡ more t q
unfolding closing
closing_local r r' at t q s e h = go (empty (span name_byte (s ++ r))) refl e
  where
    go : (u : Bool) → empty (span name_byte (s ++ r)) ≡ u → if u (last (fault 4 (suc at))) (close_end at (span name_byte (s ++ r)) (past white (past name_byte (s ++ r))) (suc (suc at) + length (span name_byte (s ++ r)) + length (span white (past name_byte (s ++ r))))) ≡ more t q → if (empty (span name_byte (s ++ r'))) (last (fault 4 (suc at))) (close_end at (span name_byte (s ++ r')) (past white (past name_byte (s ++ r'))) (suc (suc at) + length (span name_byte (s ++ r')) + length (span white (past name_byte (s ++ r'))))) ≡ more t q
    go true f e = cc
    go false f e =
        let a = shut_after at (span name_byte (s ++ r)) (past white (past name_byte (s ++ r))) (suc (suc at) + length (span name_byte (s ++ r)) + length (span white (past name_byte (s ++ r)))) t q e in
        let c = cut name_byte s r (omega arith) in
        let o : length (span white (c.rest ++ r)) < length c.rest = rw (← c.left r) (omega (arith, c.long)) in
        let d = cut white c.rest r o in
        rw (c.run r', f, c.left r', d.run r', d.left r')
        (shut_local r r' at (span name_byte (s ++ r)) t q d.rest (suc (suc at) + length (span name_byte (s ++ r)) + length (span white (c.rest ++ r))) (rw (← d.left r, ← c.left r) e) (omega (arith, c.long, d.long)))

-- ---- the next token

tag_after : (l : List ℕ) (at : ℕ) (t : Token) (q : ℕ) → tag l at ≡ more t q → suc at < q
unfolding opening closing
tag_after [] at t q e = let z : ◌≡◌ {A = ℕ} 0 1 = cc in absurd (omega arith)
tag_after (b ∷ l) at t q e = go (eqb b 47) e
  where
    shut : (u : Bool) → if u (last (fault 4 (suc at))) (close_end at (span name_byte l) (past white (past name_byte l)) (suc (suc at) + length (span name_byte l) + length (span white (past name_byte l)))) ≡ more t q → suc at < q
    shut true e = let z : ◌≡◌ {A = ℕ} 0 1 = cc in absurd (omega arith)
    shut false e = let z = shut_after at (span name_byte l) (past white (past name_byte l)) (suc (suc at) + length (span name_byte l) + length (span white (past name_byte l))) t q e in omega arith

    begun : (u : Bool) → if u (last (fault 4 (suc at))) (with_attrs at (span name_byte (b ∷ l)) (gather 256 (past name_byte (b ∷ l)) (suc at + length (span name_byte (b ∷ l))))) ≡ more t q → suc at < q
    begun true e = let z : ◌≡◌ {A = ℕ} 0 1 = cc in absurd (omega arith)
    begun false e = let z = attrs_after 256 at (span name_byte (b ∷ l)) (past name_byte (b ∷ l)) (suc at + length (span name_byte (b ∷ l))) t q e in omega arith

    go : (u : Bool) → if u (closing l at) (opening (b ∷ l) at) ≡ more t q → suc at < q
    go true e = shut (empty (span name_byte l)) e
    go false e = begun (empty (span name_byte (b ∷ l))) e

tag_local : (r r' : List ℕ) (at : ℕ) (t : Token) (q : ℕ) (s : List ℕ) → tag (s ++ r) at ≡ more t q → q ≤ suc at + length s → tag (s ++ r') at ≡ more t q
tag_local r r' at t q [] e h = absurd (let z = tag_after r at t q e in omega arith)
tag_local r r' at t q (b ∷ s) e h = go (eqb b 47) e
  where
    go : (u : Bool) → if u (closing (s ++ r) at) (opening (b ∷ s ++ r) at) ≡ more t q → if u (closing (s ++ r') at) (opening (b ∷ s ++ r') at) ≡ more t q
    go true e = closing_local r r' at t q s e (omega arith)
    go false e = opening_local r r' at t q (b ∷ s) e h

reached : (l : List ℕ) (p : ℕ) (t : Token) (q : ℕ) → tag_or_end l p ≡ more t q → suc p < q
reached [] p t q e = let z : ◌≡◌ {A = ℕ} 0 1 = cc in absurd (omega arith)
reached (b ∷ l) p t q e = tag_after l p t q e

reached_local : (r r' : List ℕ) (p : ℕ) (t : Token) (q : ℕ) (s : List ℕ) → tag_or_end (s ++ r) p ≡ more t q → q ≤ p + length s → tag_or_end (s ++ r') p ≡ more t q
reached_local r r' p t q [] e h = absurd (let z = reached r p t q e in omega arith)
reached_local r r' p t q (b ∷ s) e h = tag_local r r' p t q s e (omega arith)

-- a token that ends within a part of the document is that token whatever follows
pub next_part : (r r' : List ℕ) (at : ℕ) (t : Token) (q : ℕ) (s : List ℕ) → next (s ++ r) at ≡ more t q → q ≤ at + length s → next (s ++ r') at ≡ more t q
unfolding next ignorable
next_part r r' at t q s e h = go (ignorable (s ++ r) at) refl (ignorable_within (s ++ r) at) e
  where
    go : (x : Result ℕ Fault) → ignorable (s ++ r) at ≡ x → Scanned at (at + length (s ++ r)) x → past_ignorable x (s ++ r) at ≡ more t q → past_ignorable (ignorable (s ++ r') at) (s ++ r') at ≡ more t q
    go (Err x) f w e = cc
    go (Ok p) f w e =
        let z = reached (drop (p - at) (s ++ r)) p t q e in
        let n : p - at ≤ length s = omega (arith, w.0) in
        let i : ignorable (s ++ r') at ≡ Ok p = ignorable_local r r' 0 s at p f (omega (arith, w.0)) in
        rw (i, drop-append-le (p - at) s r' n)
        (reached_local r r' p t q (drop (p - at) s) (rw (← drop-append-le (p - at) s r n) e) (rw length-drop (omega (arith, w.0))))
