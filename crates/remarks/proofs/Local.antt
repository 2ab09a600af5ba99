-- A scan that ends within a part of a document is the same whatever follows that part.
use Prim.Native.Nat.{ℕ, zero, suc, ◌+◌, ◌-◌, ◌≤◌, ◌<◌}
use mathlib.Core.Path.{◌≡◌, refl, sym, ap, ◌∙◌}
use mathlib.Core.List.{List, [], ◌∷◌, ◌++◌}
use mathlib.Core.Bool.{Bool, true, false}
use borrow.Author.Tests.{eqb-true}
use native.Mathlib.Omega.{arith}
use lib.Dec.{eqb}
use lib.ListN.{length, drop, length-drop, length-append}
use lib.Seq.{drop-append-le}
use Rattle.std.specs.Prelude.{Result, Ok, Err}
use Rattle.faults.specs.declared.Fault.{Fault}
use Rattle.slices.specs.Bytes.{if, bytes, other, all, starts}
use Rattle.slices.proofs.Runs.{and_both}
use Rattle.scan.proofs.Marked.{ignored_place, ignored_no_tag}
use Rattle.scan.specs.Ignorable.{Mode, bare, quoted, changed, ends, declaration_in, declared, markup, further, seek, ignorable_from, ignorable, ignored}
use Rattle.document.proofs.Ignorables.{Scanned, ignorable_within}
use Rattle.scan.specs.declared.Markup.{Markup}
use Rattle.scan.specs.declared.Markup.TheVariants.{Tag, Ignored}
use Rattle.scan.proofs.Seek.{seek_past}

-- a declaration ends past where it began
pub declaration_after : (m : Mode) (l : List ℕ) (p q : ℕ) → declaration_in m l p ≡ Ok q → p < q
declaration_after (bare d) [] p q e = let z : ◌≡◌ {A = ℕ} 0 1 = cc in absurd (omega arith)
declaration_after (quoted d b c) [] p q e = let z : ◌≡◌ {A = ℕ} 0 1 = cc in absurd (omega arith)
declaration_after m (b ∷ l) p q e = go (ends m b) e (λ f. declaration_after (changed m b p) l (suc p) q f)
  where
    go : (t : Bool) → if t (Ok (suc p)) (declaration_in (changed m b p) l (suc p)) ≡ Ok q → (declaration_in (changed m b p) l (suc p) ≡ Ok q → suc p < q) → p < q
    go true e i = let z : suc p ≡ q = cc in omega arith
    go false e i = let z = i e in omega arith

module _ (r r' : List ℕ) where
  pub starts_local : (key s : List ℕ) → length key ≤ length s → starts key (s ++ r) ≡ starts key (s ++ r')
  starts_local [] s h = refl
  starts_local (a ∷ k) [] h = absurd (omega arith)
  starts_local (a ∷ k) (b ∷ s) h = ap (λ t. if (eqb a b) t false) (starts_local k s (omega arith))

  -- a part with a `>` (62), and a key without: they part within the part
  pub starts_apart : (key s : List ℕ) → all (other 62) key ≡ true → all (other 62) s ≡ false → starts key (s ++ r) ≡ starts key (s ++ r')
  starts_apart [] s h g = refl
  starts_apart (a ∷ k) [] h g = cc
  starts_apart (a ∷ k) (b ∷ s) h g = go (eqb a b) refl (eqb a 62) refl h g (λ i j. starts_apart k s i j)
    where
      go : (t : Bool) → eqb a b ≡ t → (u : Bool) → eqb a 62 ≡ u → all (other 62) (a ∷ k) ≡ true → all (other 62) (b ∷ s) ≡ false → (all (other 62) k ≡ true → all (other 62) s ≡ false → starts k (s ++ r) ≡ starts k (s ++ r')) → if t (starts k (s ++ r)) false ≡ if t (starts k (s ++ r')) false
      go false f u v h g i = refl
      go true f true v h g i = let z : false ≡ true = rw v at h in cc
      go true f false v h g i =
          let e = eqb-true a b f in
          i (rw v at h) (rw (← e, v) at g)

  module _ (n : ℕ) (key : List ℕ) (c : ℕ) (k : 0 < length key) where
    pub seek_local : (s : List ℕ) (p q : ℕ) → seek n key c (s ++ r) p ≡ Ok q → q ≤ p + length s → seek n key c (s ++ r') p ≡ Ok q
    seek_local [] p q e h = absurd (let z = seek_past n key c r p q e in omega arith)
    seek_local (b ∷ s) p q e h = go (starts key (b ∷ s ++ r)) refl e (λ f g. seek_local s (suc p) q f g)
      where
        go : (t : Bool) → starts key (b ∷ s ++ r) ≡ t → if t (Ok (p + length key)) (seek n key c (s ++ r) (suc p)) ≡ Ok q → (seek n key c (s ++ r) (suc p) ≡ Ok q → q ≤ suc p + length s → seek n key c (s ++ r') (suc p) ≡ Ok q) → seek n key c (b ∷ s ++ r') p ≡ Ok q
        go true f e i =
            let z : p + length key ≡ q = cc in
            rw (sym (starts_local key (b ∷ s) (omega arith)) ∙ f) e
        go false f e i =
            let z = seek_past n key c (s ++ r) (suc p) q e in
            rw (sym (starts_local key (b ∷ s) (omega arith)) ∙ f) (i e (omega arith))

  pub declaration_local : (m : Mode) (s : List ℕ) (p q : ℕ) → declaration_in m (s ++ r) p ≡ Ok q → q ≤ p + length s → declaration_in m (s ++ r') p ≡ Ok q
  declaration_local m [] p q e h = absurd (let z = declaration_after m r p q e in omega arith)
  declaration_local m (b ∷ s) p q e h = go (ends m b) e (λ f. declaration_local (changed m b p) s (suc p) q f (omega arith))
    where
      go : (t : Bool) → if t (Ok (suc p)) (declaration_in (changed m b p) (s ++ r) (suc p)) ≡ Ok q → (declaration_in (changed m b p) (s ++ r) (suc p) ≡ Ok q → declaration_in (changed m b p) (s ++ r') (suc p) ≡ Ok q) → if t (Ok (suc p)) (declaration_in (changed m b p) (s ++ r') (suc p)) ≡ Ok q
      go true e i = e
      go false e i = i e

-- a declaration that ends within a part has a `>` there
ends_with : (m : Mode) (b : ℕ) → ends m b ≡ true → eqb b 62 ≡ true
ends_with (bare d) b e = (and_both (eqb d 0) (eqb b 62) e).1
ends_with (quoted d q c) b e = cc

module _ (r : List ℕ) where
  pub declaration_has : (m : Mode) (s : List ℕ) (p q : ℕ) → declaration_in m (s ++ r) p ≡ Ok q → q ≤ p + length s → all (other 62) s ≡ false
  declaration_has m [] p q e h = absurd (let z = declaration_after m r p q e in omega arith)
  declaration_has m (b ∷ s) p q e h = go (ends m b) refl e (λ f. declaration_has (changed m b p) s (suc p) q f (omega arith))
    where
      test : (u : Bool) → all (other 62) s ≡ false → if u (all (other 62) s) false ≡ false
      test true i = i
      test false i = refl

      go : (t : Bool) → ends m b ≡ t → if t (Ok (suc p)) (declaration_in (changed m b p) (s ++ r) (suc p)) ≡ Ok q → (declaration_in (changed m b p) (s ++ r) (suc p) ≡ Ok q → all (other 62) s ≡ false) → all (other 62) (b ∷ s) ≡ false
      go true f e i = rw (ends_with m b f) refl
      go false f e i = test (other 62 b) (i e)

declared_after : (l : List ℕ) (at q : ℕ) → declared l at ≡ Ok q → at + 2 < q
declared_after l at q e = go (starts (bytes "--") l) (starts (bytes "[CDATA[") l) e
  where
    go : (t u : Bool) → if t (seek 22 (bytes "-->") (at + 4) (drop 2 l) (at + 4)) (if u (seek 23 (bytes "]]>") (at + 9) (drop 7 l) (at + 9)) (declaration_in (bare 0) l (at + 2))) ≡ Ok q → at + 2 < q
    go true u e = let z = seek_past 22 (bytes "-->") (at + 4) (drop 2 l) (at + 4) q e in omega arith
    go false true e = let z = seek_past 23 (bytes "]]>") (at + 9) (drop 7 l) (at + 9) q e in omega arith
    go false false e = declaration_after (bare 0) l (at + 2) q e

module _ (r r' : List ℕ) where
  pub declared_local : (s : List ℕ) (at q : ℕ) → declared (s ++ r) at ≡ Ok q → q ≤ at + 2 + length s → declared (s ++ r') at ≡ Ok q
  declared_local s at q e h = go (starts (bytes "--") (s ++ r)) refl (starts (bytes "[CDATA[") (s ++ r)) refl e
    where
      go : (t : Bool) → starts (bytes "--") (s ++ r) ≡ t → (u : Bool) → starts (bytes "[CDATA[") (s ++ r) ≡ u → if t (seek 22 (bytes "-->") (at + 4) (drop 2 (s ++ r)) (at + 4)) (if u (seek 23 (bytes "]]>") (at + 9) (drop 7 (s ++ r)) (at + 9)) (declaration_in (bare 0) (s ++ r) (at + 2))) ≡ Ok q → declared (s ++ r') at ≡ Ok q
      go true f u g e =
          let z = seek_past 22 (bytes "-->") (at + 4) (drop 2 (s ++ r)) (at + 4) q e in
          let n : 2 ≤ length s = omega arith in
          rw (sym (starts_local r r' (bytes "--") s n) ∙ f, drop-append-le 2 s r' n)
          (seek_local r r' 22 (bytes "-->") (at + 4) (omega arith) (drop 2 s) (at + 4) q (rw (drop-append-le 2 s r n) at e) (rw length-drop (omega arith)))
      go false f true g e =
          let z = seek_past 23 (bytes "]]>") (at + 9) (drop 7 (s ++ r)) (at + 9) q e in
          let n : 7 ≤ length s = omega arith in
          rw (sym (starts_local r r' (bytes "--") s (omega arith)) ∙ f, sym (starts_local r r' (bytes "[CDATA[") s n) ∙ g, drop-append-le 7 s r' n)
          (seek_local r r' 23 (bytes "]]>") (at + 9) (omega arith) (drop 7 s) (at + 9) q (rw (drop-append-le 7 s r n) at e) (rw length-drop (omega arith)))
      go false f false g e =
          let w = declaration_has r (bare 0) s (at + 2) q e h in
          rw (sym (starts_apart r r' (bytes "--") s refl w) ∙ f, sym (starts_apart r r' (bytes "[CDATA[") s refl w) ∙ g)
          (declaration_local r r' (bare 0) s (at + 2) q e h)

pub markup_after : (l : List ℕ) (at q : ℕ) → markup l at ≡ Ok (Ignored q) → suc at < q
markup_after [] at q e = let z : ◌≡◌ {A = ℕ} 0 1 = cc in absurd (omega arith)
markup_after (b ∷ l) at q e = go (eqb b 33) (eqb b 63) e
  where
    go : (t u : Bool) → if t (ignored (declared l at)) (if u (ignored (seek 24 (bytes "?>") (at + 2) l (at + 2))) (Ok Tag)) ≡ Ok (Ignored q) → suc at < q
    go true u e = let z : declared l at ≡ Ok q = ignored_place (declared l at) q e in let y = declared_after l at q z in omega arith
    go false true e = let z : seek 24 (bytes "?>") (at + 2) l (at + 2) ≡ Ok q = ignored_place (seek 24 (bytes "?>") (at + 2) l (at + 2)) q e in let y = seek_past 24 (bytes "?>") (at + 2) l (at + 2) q z in omega arith
    go false false e = let z : ◌≡◌ {A = ℕ} 0 1 = cc in absurd (omega arith)

module _ (r r' : List ℕ) where
  pub markup_local : (s : List ℕ) (at q : ℕ) → markup (s ++ r) at ≡ Ok (Ignored q) → q ≤ suc at + length s → markup (s ++ r') at ≡ Ok (Ignored q)
  markup_local [] at q e h = absurd (let z = markup_after r at q e in omega arith)
  markup_local (b ∷ s) at q e h = go (eqb b 33) (eqb b 63) e
    where
      go : (t u : Bool) → if t (ignored (declared (s ++ r) at)) (if u (ignored (seek 24 (bytes "?>") (at + 2) (s ++ r) (at + 2))) (Ok Tag)) ≡ Ok (Ignored q) → if t (ignored (declared (s ++ r') at)) (if u (ignored (seek 24 (bytes "?>") (at + 2) (s ++ r') (at + 2))) (Ok Tag)) ≡ Ok (Ignored q)
      go true u e = let z : declared (s ++ r) at ≡ Ok q = ignored_place (declared (s ++ r) at) q e in ap ignored (declared_local r r' s at q z (omega arith))
      go false true e = let z : seek 24 (bytes "?>") (at + 2) (s ++ r) (at + 2) ≡ Ok q = ignored_place (seek 24 (bytes "?>") (at + 2) (s ++ r) (at + 2)) q e in ap ignored (seek_local r r' 24 (bytes "?>") (at + 2) (omega arith) s (at + 2) q z (omega arith))
      go false false e = cc

  markup_tag : (s : List ℕ) (at : ℕ) → 0 < length s → markup (s ++ r) at ≡ Ok Tag → markup (s ++ r') at ≡ Ok Tag
  markup_tag [] at h e = absurd (omega arith)
  markup_tag (b ∷ s) at h e = go (eqb b 33) (eqb b 63) e
    where
      go : (t u : Bool) → if t (ignored (declared (s ++ r) at)) (if u (ignored (seek 24 (bytes "?>") (at + 2) (s ++ r) (at + 2))) (Ok Tag)) ≡ Ok Tag → if t (ignored (declared (s ++ r') at)) (if u (ignored (seek 24 (bytes "?>") (at + 2) (s ++ r') (at + 2))) (Ok Tag)) ≡ Ok Tag
      go true u e = ignored_no_tag (declared (s ++ r) at) e
      go false true e = ignored_no_tag (seek 24 (bytes "?>") (at + 2) (s ++ r) (at + 2)) e
      go false false e = refl

-- bytes that are taken lie before the answer
ignorable_after : (k : ℕ) (l : List ℕ) (at p : ℕ) → ignorable_from k l at ≡ Ok p → p < at + length l → at + k ≤ p
unfolding ignorable
ignorable_after zero l at p e h = let z : Scanned at (at + length l) (Ok p) = rw e at (ignorable_within l at) in omega (arith, z.0)
ignorable_after (suc k) [] at p e h = absurd (let z : at ≡ p = cc in omega arith)
ignorable_after (suc k) (b ∷ l) at p e h = let z = ignorable_after k l (suc at) p e (omega arith) in omega arith

module _ (r r' : List ℕ) where
  -- the tag's `<` and the byte after it stand in the part
  pub ignorable_local : (k : ℕ) (s : List ℕ) (at p : ℕ) → ignorable_from k (s ++ r) at ≡ Ok p → p + 1 < at + length s → ignorable_from k (s ++ r') at ≡ Ok p
  unfolding ignorable
  ignorable_local zero [] at p e h = absurd (let z : Scanned at (at + length r) (Ok p) = rw e at (ignorable_within r at) in omega (arith, z.0))
  ignorable_local (suc k) [] at p e h = absurd (outside (suc k) r at p e (omega arith))
    where
      outside : (k : ℕ) (l : List ℕ) (at p : ℕ) → ignorable_from k l at ≡ Ok p → p < at → ⊥
      outside zero l at p e h = let z : Scanned at (at + length l) (Ok p) = rw e at (ignorable_within l at) in absurd (omega (arith, z.0))
      outside (suc k) [] at p e h = let z : at ≡ p = cc in absurd (omega arith)
      outside (suc k) (b ∷ l) at p e h = outside k l (suc at) p e (omega arith)
  ignorable_local (suc k) (b ∷ s) at p e h = ignorable_local k s (suc at) p e (omega arith)
  ignorable_local zero (b ∷ s) at p e h = go (eqb b 60) e (λ k f. ignorable_local k s (suc at) p f (omega arith))
    where
      marked : (m : Result Markup Fault) → markup (s ++ r) at ≡ m → further m at (λ q. ignorable_from (q - suc at) (s ++ r) (suc at)) ≡ Ok p → ((k : ℕ) → ignorable_from k (s ++ r) (suc at) ≡ Ok p → ignorable_from k (s ++ r') (suc at) ≡ Ok p) → further (markup (s ++ r') at) at (λ q. ignorable_from (q - suc at) (s ++ r') (suc at)) ≡ Ok p
      marked (Ok Tag) f e i = let z : at ≡ p = cc in rw (markup_tag r r' s at (omega arith) f) e
      marked (Err x) f e i = cc
      marked (Ok (Ignored q)) f e i =
          let a = markup_after (s ++ r) at q f in
          let y = ignorable_after (q - suc at) (s ++ r) (suc at) p e (rw length-append (omega arith)) in
          rw (markup_local r r' s at q f (omega arith)) (i (q - suc at) e)

      go : (t : Bool) → if t (further (markup (s ++ r) at) at (λ q. ignorable_from (q - suc at) (s ++ r) (suc at))) (ignorable_from 0 (s ++ r) (suc at)) ≡ Ok p → ((k : ℕ) → ignorable_from k (s ++ r) (suc at) ≡ Ok p → ignorable_from k (s ++ r') (suc at) ≡ Ok p) → if t (further (markup (s ++ r') at) at (λ q. ignorable_from (q - suc at) (s ++ r') (suc at))) (ignorable_from 0 (s ++ r') (suc at)) ≡ Ok p
      go true e i = marked (markup (s ++ r) at) refl e i
      go false e i = i 0 e
