-- What is ignored, and what is a tag, ends with `>` (62).
use Prim.Native.Nat.{ℕ, zero, suc, ◌+◌, ◌≤◌}
use mathlib.Core.Path.{◌≡◌, refl, sym, ap, ◌∙◌}
use mathlib.Core.List.{List, [], ◌∷◌, ◌++◌, append_assoc}
use mathlib.Core.Bool.{Bool, true, false}
use borrow.Author.Tests.{eqb-true}
use native.Mathlib.Omega.{arith}
use lib.Dec.{eqb}
use lib.ListN.{length, take, drop, length-append, take-append-drop}
use lib.Seq.{length-take-le}
use Rattle.std.specs.Prelude.{Result, Ok, Err}
use Rattle.faults.specs.declared.Fault.{Fault}
use Rattle.slices.specs.Bytes.{if, bytes, other, span, past, empty, starts}
use Rattle.slices.proofs.Runs.{and_both, starts_fits}
use Rattle.scan.specs.Classes.{white, name_byte}
use Rattle.scan.specs.Ignorable.{Mode, bare, quoted, quote, changed, ends, declaration_in, declared, markup, seek, ignored}
use Rattle.scan.specs.declared.Markup.{Markup}
use Rattle.scan.specs.declared.Markup.TheVariants.{Tag, Ignored}
use Rattle.document.specs.Tags.{Attr, Found, absent, found, close_quote, open_quote, equals, named, spaced, attribute, Gathered, gathered, too_many, with, another, no_more, gather, Shown, Checked, good, check}
use Rattle.document.specs.Tags as tags
use Rattle.document.specs.Tokens.{Next, more, last, slash_end, tag_end, with_shown, with_attrs, opening, close_end, closing, tag}
use Rattle.document.proofs.Tests.{either}
use Rattle.document.proofs.Branches.{span_and_past}

module _ (l₀ : List ℕ) (p₀ : ℕ) where
  -- from l₀, which begins at p₀, to l, which begins at p
  record Goes (l : List ℕ) (p : ℕ) : Type 0 where
    front : List ℕ
    is : l₀ ≡ front ++ l
    long : p₀ + length front ≡ p

  -- a `>` ends at q
  pub record Ended (q : ℕ) : Type 0 where
    pub front : List ℕ
    pub rest : List ℕ
    pub is : l₀ ≡ front ++ 62 ∷ rest
    pub long : suc (p₀ + length front) ≡ q

  begins : Goes l₀ p₀
  begins = record { front = []; is = refl; long = omega arith }

  over : {l : List ℕ} {p : ℕ} (w m : List ℕ) → w ++ m ≡ l → Goes l p → Goes m (p + length w)
  over w m e g = record {
    front = g.front ++ w;
    is = g.is ∙ ap (◌++◌ g.front) (sym e) ∙ sym (append_assoc g.front w m);
    long = rw (length-append g.front w) (omega (arith, g.long));
  }

  on : {l : List ℕ} {p b : ℕ} → Goes (b ∷ l) p → Goes l (suc p)
  on {l} {p} {b} g =
      let e : p + length (b ∷ []) ≡ suc p = omega arith in
      rw e at (over (b ∷ []) l refl g)

  run : (c : ℕ → Bool) {l : List ℕ} {p : ℕ} → Goes l p → Goes (past c l) (p + length (span c l))
  run c {l} {p} g = over (span c l) (past c l) (span_and_past c l) g

  shut : {l : List ℕ} {p b : ℕ} → eqb b 62 ≡ true → Goes (b ∷ l) p → Ended (suc p)
  shut {l} {p} {b} e g = record { front = g.front; rest = l; is = rw (← eqb-true b 62 e) g.is; long = ap suc g.long }

  -- ---- what is ignored

  abbrev ScanEnds : Result ℕ Fault → Type 0
  ScanEnds (Err f) = Unit {0}
  ScanEnds (Ok q) = Ended q

  key_ends : (k l : List ℕ) (p : ℕ) → starts (k ++ 62 ∷ []) l ≡ true → Goes l p → Ended (p + length (k ++ 62 ∷ []))
  key_ends [] [] p t g = absurd (let z : ◌≡◌ {A = ℕ} 0 1 = cc in omega arith)
  key_ends [] (b ∷ l) p t g = go (eqb 62 b) refl t
    where
      go : (u : Bool) → eqb 62 b ≡ u → if u true false ≡ true → Ended (p + 1)
      go true f t =
          let e : suc p ≡ p + 1 = omega arith in
          let h : eqb b 62 ≡ true = rw (← eqb-true 62 b f) refl in
          rw e at (shut h g)
      go false f t = absurd (let z : ◌≡◌ {A = ℕ} 0 1 = cc in omega arith)
  key_ends (a ∷ k) [] p t g = absurd (let z : ◌≡◌ {A = ℕ} 0 1 = cc in omega arith)
  key_ends (a ∷ k) (b ∷ l) p t g = go (eqb a b) t (λ u. key_ends k l (suc p) u (on g))
    where
      go : (u : Bool) → if u (starts (k ++ 62 ∷ []) l) false ≡ true → (starts (k ++ 62 ∷ []) l ≡ true → Ended (suc p + length (k ++ 62 ∷ []))) → Ended (p + suc (length (k ++ 62 ∷ [])))
      go true t i =
          let e : suc p + length (k ++ 62 ∷ []) ≡ p + suc (length (k ++ 62 ∷ [])) = omega arith in
          rw e at (i t)
      go false t i = absurd (let z : ◌≡◌ {A = ℕ} 0 1 = cc in omega arith)

  seek_ends : (n : ℕ) (k : List ℕ) (c : ℕ) (l : List ℕ) (p : ℕ) → Goes l p → ScanEnds (seek n (k ++ 62 ∷ []) c l p)
  seek_ends n k c [] p g = tt
  seek_ends n k c (b ∷ l) p g = either ScanEnds (starts (k ++ 62 ∷ []) (b ∷ l)) (λ t. key_ends k (b ∷ l) p t g) (λ t. seek_ends n k c l (suc p) (on g))

  declaration_ends : (m : Mode) (l : List ℕ) (p : ℕ) → Goes l p → ScanEnds (declaration_in m l p)
  declaration_ends (bare n) [] p g = tt
  declaration_ends (quoted n q c) [] p g = tt
  declaration_ends m (b ∷ l) p g =
      either ScanEnds (ends m b) (λ t. shut (closes m t) g) (λ t. declaration_ends (changed m b p) l (suc p) (on g))
    where
      closes : (m : Mode) → ends m b ≡ true → eqb b 62 ≡ true
      closes (bare n) e = (and_both (eqb n 0) (eqb b 62) e).1
      closes (quoted n q c) e = absurd (let z : ◌≡◌ {A = ℕ} 0 1 = cc in omega arith)

  dropped : (n : ℕ) (l : List ℕ) (p : ℕ) → n ≤ length l → Goes l p → Goes (drop n l) (p + n)
  dropped n l p h g = rw (length-take-le n l h) at (over (take n l) (drop n l) (take-append-drop n l) g)

  declared_ends : (l : List ℕ) (at : ℕ) → Goes l (at + 2) → ScanEnds (declared l at)
  declared_ends l at g =
      either ScanEnds (starts (bytes "--") l)
      (λ t.
      let e : at + 2 + 2 ≡ at + 4 = omega arith in
      seek_ends 22 (45 ∷ 45 ∷ []) (at + 4) (drop 2 l) (at + 4) (rw e at (dropped 2 l (at + 2) (starts_fits (bytes "--") l t) g)))
      (λ t. either ScanEnds (starts (bytes "[CDATA[") l)
      (λ t.
      let e : at + 2 + 7 ≡ at + 9 = omega arith in
      seek_ends 23 (93 ∷ 93 ∷ []) (at + 9) (drop 7 l) (at + 9) (rw e at (dropped 7 l (at + 2) (starts_fits (bytes "[CDATA[") l t) g)))
      (λ t. declaration_ends (bare 0) l (at + 2) g))

  abbrev pub MarkupEnds : Result Markup Fault → Type 0
  MarkupEnds (Ok Tag) = Unit {0}
  MarkupEnds (Ok (Ignored p)) = ScanEnds (Ok p)
  MarkupEnds (Err f) = ScanEnds (Err f)

  marked : (x : Result ℕ Fault) → ScanEnds x → MarkupEnds (ignored x)
  marked (Ok p) h = h
  marked (Err f) h = h

  markup_goes : (l : List ℕ) (at : ℕ) → Goes l (suc at) → MarkupEnds (markup l at)
  markup_goes [] at g = tt
  markup_goes (b ∷ l) at g =
      let e : suc (suc at) ≡ at + 2 = omega arith in
      let h = rw e at (on g) in
      either MarkupEnds (eqb b 33)
      (λ t. marked (declared l at) (declared_ends l at h))
      (λ t. either MarkupEnds (eqb b 63) (λ t. marked (seek 24 (bytes "?>") (at + 2) l (at + 2)) (seek_ends 24 (63 ∷ []) (at + 2) l (at + 2) h)) (λ t. tt))

  -- ---- attributes

  abbrev FoundGoes : Found → Type 0
  FoundGoes absent = Unit {0}
  FoundGoes (found a l p) = Goes l p

  quote_goes : (a : Attr) (l : List ℕ) (p : ℕ) → Goes l p → FoundGoes (close_quote a l p)
  quote_goes a [] p g = tt
  quote_goes a (b ∷ l) p g = on g

  open_goes : (at : ℕ) (n l : List ℕ) (p : ℕ) → Goes l p → FoundGoes (open_quote at n l p)
  open_goes at n [] p g = tt
  open_goes at n (q ∷ l) p g = either FoundGoes (quote q) (λ t. quote_goes _ (past (other q) l) (suc p + length (span (other q) l)) (run (other q) (on g))) (λ t. tt)

  equals_goes : (at : ℕ) (n l : List ℕ) (p : ℕ) → Goes l p → FoundGoes (equals at n l p)
  equals_goes at n [] p g = tt
  equals_goes at n (b ∷ l) p g = either FoundGoes (eqb b 61) (λ t. open_goes at n (past white l) (suc p + length (span white l)) (run white (on g))) (λ t. tt)

  named_goes : (at : ℕ) (n l : List ℕ) (p : ℕ) → Goes l p → FoundGoes (named at n l p)
  named_goes at n l p g = either FoundGoes (empty n) (λ t. tt) (λ t. equals_goes at n (past white l) (p + length (span white l)) (run white g))

  spaced_goes : (w l : List ℕ) (p : ℕ) → Goes l p → FoundGoes (spaced w l p)
  spaced_goes w l p g = either FoundGoes (empty w) (λ t. tt) (λ t. named_goes p (span name_byte l) (past name_byte l) (p + length (span name_byte l)) (run name_byte g))

  attribute_goes : (l : List ℕ) (p : ℕ) → Goes l p → FoundGoes (attribute l p)
  unfolding attribute
  attribute_goes l p g = spaced_goes (span white l) (past white l) (p + length (span white l)) (run white g)

  abbrev GatheredGoes : Gathered → Type 0
  GatheredGoes (gathered xs l p) = Goes l p
  GatheredGoes (too_many p) = Unit {0}

  gather_goes : (n : ℕ) (l : List ℕ) (p : ℕ) → Goes l p → GatheredGoes (gather n l p)
  unfolding gather
  gather_goes zero l p g = go (attribute l p)
    where
      go : (f : Found) → GatheredGoes (no_more f l p)
      go absent = g
      go (found a m q) = tt
  gather_goes (suc n) l p g = go (attribute l p) (attribute_goes l p g) (gather_goes n)
    where
      all : (a : Attr) (x : Gathered) → GatheredGoes x → GatheredGoes (with a x)
      all a (gathered xs m q) h = h
      all a (too_many q) h = tt

      go : (f : Found) → FoundGoes f → ((m : List ℕ) (q : ℕ) → Goes m q → GatheredGoes (gather n m q)) → GatheredGoes (another f l p (λ m q. gather n m q))
      go absent h i = g
      go (found a m q) h i = all a (gather n m q) (i m q h)

  -- ---- tags

  abbrev pub NextEnds : Next → Type 0
  NextEnds (more t q) = Ended q
  NextEnds (last t) = Unit {0}

  slash_ends : (at : ℕ) (n : List ℕ) (xs : List Shown) (l : List ℕ) (p : ℕ) → Goes l (suc p) → NextEnds (slash_end at n xs l p)
  slash_ends at n xs [] p g = tt
  slash_ends at n xs (b ∷ l) p g = either NextEnds (eqb b 62) (λ t. shut t g) (λ t. tt)

  tag_ends : (at : ℕ) (n : List ℕ) (xs : List Shown) (l : List ℕ) (p : ℕ) → Goes l p → NextEnds (tag_end at n xs l p)
  tag_ends at n xs [] p g = tt
  tag_ends at n xs (b ∷ l) p g =
      either NextEnds (eqb b 62) (λ t. shut t g) (λ t. either NextEnds (eqb b 47) (λ u. slash_ends at n xs l p (on g)) (λ u. tt))

  shown_ends : (at : ℕ) (n : List ℕ) (c : Checked) (l : List ℕ) (p : ℕ) → Goes l p → NextEnds (with_shown at n c l p)
  shown_ends at n (tags.fault k q) l p g = tt
  shown_ends at n (good xs) l p g = tag_ends at n xs (past white l) (p + length (span white l)) (run white g)

  attrs_end : (at : ℕ) (n : List ℕ) (x : Gathered) → GatheredGoes x → NextEnds (with_attrs at n x)
  attrs_end at n (gathered xs l p) g = shown_ends at n (check [] xs) l p g
  attrs_end at n (too_many p) g = tt

  opening_ends : (l : List ℕ) (at : ℕ) → Goes l (suc at) → NextEnds (opening l at)
  unfolding opening
  opening_ends l at g =
      let n = span name_byte l in
      either NextEnds (empty n) (λ t. tt)
      (λ t. attrs_end at n (gather 256 (past name_byte l) (suc at + length n)) (gather_goes 256 (past name_byte l) (suc at + length n) (run name_byte g)))

  close_ends : (at : ℕ) (n l : List ℕ) (p : ℕ) → Goes l p → NextEnds (close_end at n l p)
  close_ends at n [] p g = tt
  close_ends at n (b ∷ l) p g = either NextEnds (eqb b 62) (λ t. shut t g) (λ t. tt)

  closing_ends : (l : List ℕ) (at : ℕ) → Goes l (suc (suc at)) → NextEnds (closing l at)
  unfolding closing
  closing_ends l at g =
      let n = span name_byte l in
      let m = past name_byte l in
      either NextEnds (empty n) (λ t. tt)
      (λ t. close_ends at n (past white m) (suc (suc at) + length n + length (span white m)) (run white (run name_byte g)))

  tag_goes : (l : List ℕ) (at : ℕ) → Goes l (suc at) → NextEnds (tag l at)
  tag_goes [] at g = tt
  tag_goes (b ∷ l) at g = either NextEnds (eqb b 47) (λ t. closing_ends l at (on g)) (λ t. opening_ends (b ∷ l) at g)

-- after a `<`, whose place is given
pub ignored_ended : (l : List ℕ) (at q : ℕ) → markup l at ≡ Ok (Ignored q) → Ended l (suc at) q
ignored_ended l at q e = rw e at (markup_goes l (suc at) l at (begins l (suc at)))

pub tag_ended : (l : List ℕ) (at : ℕ) → NextEnds l (suc at) (tag l at)
tag_ended l at = tag_goes l (suc at) l at (begins l (suc at))
