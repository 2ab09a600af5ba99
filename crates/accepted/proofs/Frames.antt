-- Open elements and the rows so far: every row but those of an open definition is sound; and a new row keeps that.
use Prim.Native.Nat.{ℕ, zero, suc, ◌-◌, ◌≤◌, ◌<◌}
use mathlib.Core.Path.{◌≡◌, refl, ap}
use mathlib.Core.List.{List, [], ◌∷◌}
use mathlib.Core.Bool.{Bool, true, false}
use borrow.Author.Tests.{eqb-true, eqb-false}
use native.Mathlib.Omega.{arith}
use lib.Dec.{eqb}
use Rattle.slices.specs.Bytes.{if}
use Rattle.utf8.proofs.Sequences.{below}
use Rattle.document.specs.Kinds as kinds
use Rattle.document.specs.Elements.{among, may_hold}
use Rattle.document.specs.Reading.{Definition, Purpose, ignored, captures, Frame, element, definition, passing, parts_reason, reason_of}
use Rattle.items.specs.Sound.{tp_use, any_text, valid_word}
use Rattle.accepted.proofs.Tokens.{After}
use Rattle.document.specs.Kinds.{definitions}
use Rattle.accepted.proofs.Entries.{GoodIn, Brief, Complete}

-- ---- rows by their numbers

-- row i, by the kinds of the rows: row 0 is a node, and any other stands in an element before it that may hold it
abbrev pub Placed : (ℕ → ℕ) → ℕ → ℕ → ℕ → Type 0
Placed ks zero k p = (k ≡ kinds.node) × (p ≡ 0)
Placed ks (suc i) k p = (0 < p) × (p ≤ suc i) × (may_hold (ks (p - 1)) k ≡ true)

-- all but name, value and docstring of row i is sound
abbrev pub Fine : (ℕ → Brief) → ℕ → Type 0
Fine f i = Placed (λ j. (f j).kind) i (f i).kind (f i).parent × GoodIn (tp_use (f i).kind) any_text (f i).tp × (valid_word (f i).kind (f i).word ≡ true)

-- the first n rows are the same
abbrev pub Agree : ℕ → (ℕ → Brief) → (ℕ → Brief) → Type 0
Agree n f g = (i : ℕ) → i < n → f i ≡ g i

placed_agree : (ks js : ℕ → ℕ) (i k p : ℕ) → ((j : ℕ) → j < i → ks j ≡ js j) → Placed ks i k p → Placed js i k p
placed_agree ks js zero k p a h = h
placed_agree ks js (suc i) k p a h = (h.0, h.1, rw (a (p - 1) (omega (arith, h.0, h.1))) at h.2)

pub fine_agree : (n : ℕ) (f g : ℕ → Brief) → Agree n f g → (i : ℕ) → i < n → Fine f i → Fine g i
fine_agree n f g a i l h =
    rw (← a i l)
    (placed_agree (λ j. (f j).kind) (λ j. (g j).kind) i (f i).kind (f i).parent (λ j m. ap (λ (b : Brief). b.kind) (a j (omega arith))) h.0, h.1, h.2)

pub fine_new : (g : ℕ → Brief) (n k p : ℕ) → (g n).kind ≡ k → (g n).parent ≡ p → Placed (λ j. (g j).kind) n k p → GoodIn (tp_use k) any_text (g n).tp → valid_word k (g n).word ≡ true → Fine g n
fine_new g n k p c d h i j = rw (c, d) (h, i, j)

-- ---- open elements, when there are n rows

module _ (doc : List ℕ) where
  -- a docstring begins after a tag, and is for a row that is no annotation
  abbrev pub Aims : ℕ → (ℕ → Brief) → Purpose → Type 0
  Aims n f ignored = Unit {0}
  Aims n f (captures s i) = (i < n) × (eqb (f i).kind kinds.annotation ≡ false) × After doc s

  -- names and values are sound, but in the rows of a definition only if so far it is
  abbrev pub Frames : ℕ → (ℕ → Brief) → List Frame → Type 0
  Frames n f [] = (i : ℕ) → i < n → Complete (f i)
  Frames n f (element k m r ∷ fs) = (r < n) × ((f r).kind ≡ k) × (among k definitions ≡ false) × Frames n f fs
  Frames n f (definition d ∷ fs) =
      (d.row < n) × ((f d.row).kind ≡ d.kind)
      × (d.reason ≡ 0 → Complete (f d.row))
      × (d.parts.broken ≡ false → (i : ℕ) → d.row < i → i < n → Complete (f i))
      × Frames d.row f fs
  Frames n f (passing p ns ∷ fs) = Aims n f p × Frames n f fs

  aims_agree : (n : ℕ) (f g : ℕ → Brief) (p : Purpose) → Agree n f g → Aims n f p → Aims n g p
  aims_agree n f g ignored a h = tt
  aims_agree n f g (captures s i) a h = (h.0, rw (← a i h.0) h.1, h.2)

  pub frames_agree : (n : ℕ) (f g : ℕ → Brief) (fs : List Frame) → Agree n f g → Frames n f fs → Frames n g fs
  frames_agree n f g [] a h = λ i l. rw (← a i l) (h i l)
  frames_agree n f g (element k m r ∷ fs) a h = (h.0, rw (← a r h.0) h.1, h.2, frames_agree n f g fs a h.3)
  frames_agree n f g (definition d ∷ fs) a h = (
    h.0,
    rw (← a d.row h.0) h.1,
    (λ e. rw (← a d.row h.0) (h.2 e)),
    (λ e i l m. rw (← a i m) (h.3 e i l m)),
    frames_agree d.row f g fs (λ i l. a i (omega (arith, h.0))) h.4,
  )
  frames_agree n f g (passing p ns ∷ fs) a h = (aims_agree n f g p a h.0, frames_agree n f g fs a h.1)

  aims_more : (n m : ℕ) (f : ℕ → Brief) (p : Purpose) → n ≤ m → Aims n f p → Aims m f p
  aims_more n m f ignored l h = tt
  aims_more n m f (captures s i) l h = (omega (arith, h.0), h.1, h.2)

  -- more rows that are complete
  pub frames_more : (n m : ℕ) (f : ℕ → Brief) (fs : List Frame) → n ≤ m → ((i : ℕ) → n ≤ i → i < m → Complete (f i)) → Frames n f fs → Frames m f fs
  frames_more n m f [] l c h = λ i j. below i n (λ k. h i k) (λ k. c i k j)
  frames_more n m f (element k x r ∷ fs) l c h = (omega (arith, h.0), h.1, h.2, frames_more n m f fs l c h.3)
  frames_more n m f (definition d ∷ fs) l c h =
      (omega (arith, h.0), h.1, h.2, (λ e i j k. below i n (λ x. h.3 e i j x) (λ x. c i x k)), h.4)
  frames_more n m f (passing p ns ∷ fs) l c h = (aims_more n m f p l h.0, frames_more n m f fs l c h.1)

  -- a definition that is complete
  pub frames_judged : (n : ℕ) (f : ℕ → Brief) (d : Definition) (fs : List Frame) → reason_of d ≡ 0 → Frames n f (definition d ∷ fs) → Frames n f fs
  frames_judged n f d fs e h =
      frames_more d.row n f fs (omega (arith, h.0))
      (λ i j k. below d.row i
      (λ l. h.3 w.1 i l k)
      (λ l. let x : d.row ≡ i = omega arith in rw (← x) (h.2 w.0)))
      h.4
    where
      whole_parts : (k : ℕ) (b : Bool) (x : ℕ) → if b (if (eqb k kinds.enum) 5 6) x ≡ 0 → b ≡ false
      whole_parts k true x e = go (eqb k kinds.enum) e
        where
          go : (c : Bool) → if {A = ℕ} c 5 6 ≡ 0 → true ≡ false
          go true e = absurd (omega arith)
          go false e = absurd (omega arith)
      whole_parts k false x e = refl

      go : (b : Bool) → eqb d.reason 0 ≡ b → if b (parts_reason d.kind d.parts) d.reason ≡ 0 → (d.reason ≡ 0) × (d.parts.broken ≡ false)
      go true c e = (eqb-true d.reason 0 c, whole_parts d.kind d.parts.broken _ e)
      go false c e = absurd (eqb-false d.reason 0 c e)

      w : (d.reason ≡ 0) × (d.parts.broken ≡ false)
      w = go (eqb d.reason 0) refl e
