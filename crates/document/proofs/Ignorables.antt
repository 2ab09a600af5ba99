-- Where passing over what is ignorable comes to: further on, and no further than the end; so do the places of its faults.
use Prim.Native.Nat.{ℕ, zero, suc, ◌+◌, ◌-◌, ◌≤◌}
use mathlib.Core.Path.{◌≡◌, refl}
use mathlib.Core.List.{List, [], ◌∷◌}
use mathlib.Core.Bool.{true}
use native.Mathlib.Omega.{arith}
use lib.Dec.{eqb}
use lib.ListN.{length, drop, length-drop}
use Rattle.std.specs.Prelude.{Result, Ok, Err}
use Rattle.faults.specs.declared.Fault.{Fault}
use Rattle.slices.specs.Bytes.{bytes, starts}
use Rattle.slices.proofs.Runs.{starts_fits}
use Rattle.scan.specs.Ignorable.{Mode, bare, quoted, quote, changed, ends, unended, declaration_in, declared, markup, seek, further, ignorable_from, ignorable, ignored}
use Rattle.scan.specs.declared.Markup.{Markup}
use Rattle.scan.specs.declared.Markup.TheVariants.{Tag, Ignored}
use Rattle.document.proofs.Tests.{either}
use Rattle.document.specs.Elements.{among}

-- the numbers of what is not ended: a comment, a CDATA section, a processing instruction, a declaration
abbrev pub Unended : ℕ → Type 0
Unended n = among n (22 ∷ 23 ∷ 24 ∷ 25 ∷ []) ≡ true

-- a scan comes to a place from `from` to `top`, or to a fault at a place up to `top`
abbrev pub Scanned : ℕ → ℕ → Result ℕ Fault → Type 0
Scanned from top (Err f) = Unended f.number × (f.place ≤ top)
Scanned from top (Ok p) = (from ≤ p) × (p ≤ top)

module _ (from top : ℕ) where
  seek_within : (n : ℕ) → Unended n → (key : List ℕ) (c : ℕ) (l : List ℕ) (p : ℕ) → c ≤ top → from ≤ p → p + length l ≡ top → Scanned from top (seek n key c l p)
  seek_within n m key c [] p h f e = (m, h)
  seek_within n m key c (b ∷ l) p h f e =
      either (Scanned from top) (starts key (b ∷ l))
      (λ t. (omega arith, omega (arith, starts_fits key (b ∷ l) t)))
      (λ t. seek_within n m key c l (suc p) h (omega arith) (omega arith))

  -- the inside of an open quote begins before the end
  abbrev BegunWithin : Mode → Type 0
  BegunWithin (bare d) = Unit {0}
  BegunWithin (quoted d q c) = c ≤ top

  changed_inside : (m : Mode) (b p : ℕ) → suc p ≤ top → BegunWithin m → BegunWithin (changed m b p)
  changed_inside (bare d) b p h i =
      either BegunWithin (quote b) (λ t. h) (λ t. either BegunWithin (eqb b 91) (λ t. tt) (λ t. either BegunWithin (eqb b 93) (λ t. tt) (λ t. tt)))
  changed_inside (quoted d q c) b p h i = either BegunWithin (eqb b q) (λ t. tt) (λ t. i)

  unended_within : (m : Mode) (p : ℕ) → p ≤ top → BegunWithin m → Scanned from top (unended m p)
  unended_within (bare d) p h i = (refl, h)
  unended_within (quoted d q c) p h i = (refl, i)

  declaration_within : (m : Mode) (l : List ℕ) (p : ℕ) → from ≤ p → p + length l ≡ top → BegunWithin m → Scanned from top (declaration_in m l p)
  declaration_within m [] p f e i = unended_within m p (omega arith) i
  declaration_within m (b ∷ l) p f e i =
      either (Scanned from top) (ends m b)
      (λ t. (omega arith, omega arith))
      (λ t. declaration_within (changed m b p) l (suc p) (omega arith) (omega arith) (changed_inside m b p (omega arith) i))

  -- after `<!`, for the place of `<`
  declared_within : (l : List ℕ) (at : ℕ) → from ≤ at + 2 → at + 2 + length l ≡ top → Scanned from top (declared l at)
  declared_within l at f e =
      either (Scanned from top) (starts (bytes "--") l)
      (λ t.
      let n : 2 ≤ length l = starts_fits (bytes "--") l t in
      seek_within 22 refl (bytes "-->") (at + 4) (drop 2 l) (at + 4) (omega arith) (omega arith) (rw length-drop (omega arith)))
      (λ t. either (Scanned from top) (starts (bytes "[CDATA[") l)
      (λ t.
      let n : 7 ≤ length l = starts_fits (bytes "[CDATA[") l t in
      seek_within 23 refl (bytes "]]>") (at + 9) (drop 7 l) (at + 9) (omega arith) (omega arith) (rw length-drop (omega arith)))
      (λ t. declaration_within (bare 0) l (at + 2) f (omega arith) tt))

  -- what begins at a `<` is ignored up to such a place
  abbrev Marked : Result Markup Fault → Type 0
  Marked (Ok Tag) = Unit {0}
  Marked (Ok (Ignored p)) = Scanned from top (Ok p)
  Marked (Err f) = Scanned from top (Err f)

  marked : (x : Result ℕ Fault) → Scanned from top x → Marked (ignored x)
  marked (Ok p) h = h
  marked (Err f) h = h

  markup_within : (l : List ℕ) (at : ℕ) → from ≤ suc at → suc at + length l ≡ top → Marked (markup l at)
  markup_within [] at f e = tt
  markup_within (b ∷ l) at f e =
      either Marked (eqb b 33)
      (λ t. marked (declared l at) (declared_within l at (omega arith) (omega arith)))
      (λ t. either Marked (eqb b 63)
      (λ t. marked (seek 24 (bytes "?>") (at + 2) l (at + 2)) (seek_within 24 refl (bytes "?>") (at + 2) l (at + 2) (omega arith) (omega arith) (omega arith)))
      (λ t. tt))

module _ (from top : ℕ) where
  from_within : (k : ℕ) (l : List ℕ) (at : ℕ) → from ≤ at → k ≤ length l → at + length l ≡ top → Scanned from top (ignorable_from k l at)
  from_within k [] at f h e = (omega arith, omega arith)
  from_within zero (b ∷ l) at f h e =
      either (Scanned from top) (eqb b 60)
      (λ t. go (markup l at) (markup_within (suc at) top l at (omega arith) (omega arith)) (λ k h. from_within k l (suc at) (omega arith) h (omega arith)))
      (λ t. from_within 0 l (suc at) (omega arith) (omega arith) (omega arith))
    where
      go : (m : Result Markup Fault) → Marked (suc at) top m → ((k : ℕ) → k ≤ length l → Scanned from top (ignorable_from k l (suc at))) → Scanned from top (further m at (λ p. ignorable_from (p - suc at) l (suc at)))
      go (Ok Tag) w i = (omega arith, omega arith)
      go (Err f) w i = w
      go (Ok (Ignored p)) w i = i (p - suc at) (omega arith)
  from_within (suc k) (b ∷ l) at f h e = from_within k l (suc at) (omega arith) (omega arith) (omega arith)

pub ignorable_within : (l : List ℕ) (at : ℕ) → Scanned at (at + length l) (ignorable l at)
unfolding ignorable
ignorable_within l at = from_within at (at + length l) 0 l at (omega arith) (omega arith) refl
