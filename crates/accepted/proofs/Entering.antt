-- A row more, with its open element.
use Prim.Native.Nat.{ℕ, zero, suc, ◌-◌, ◌<◌}
use mathlib.Core.Path.{◌≡◌, refl, ap, sym, ◌∙◌}
use mathlib.Core.List.{List, [], ◌∷◌}
use mathlib.Core.Bool.{Bool, true, false, not, ◌||◌}
use borrow.Author.Tests.{eq-eqb, not-false}
use native.Mathlib.Omega.{arith}
use lib.Dec.{eqb}
use Rattle.slices.specs.Bytes.{if, bytes}
use Rattle.utf8.proofs.Sequences.{below}
use Rattle.document.specs.Tokens.{Tag}
use Rattle.document.specs.Elements.{among, may_hold, attr}
use Rattle.document.specs.Reading.{tag_name, Frame, element, definition, passing, parent_of, tag_reason, complete, noted_in, noted, frame_of}
use Rattle.document.proofs.Tests.{never}
use Rattle.document.specs.Kinds.{definitions, parts}
use Rattle.accepted.proofs.Holding.{every_kind, held_kind, part_parent}
use Rattle.document.proofs.Steps.{kind_in, Begins}
use Rattle.accepted.proofs.Entries.{Brief, Complete, due}
use Rattle.accepted.proofs.Frames.{Placed, Agree, Frames, frames_agree, frames_more}

pub begins_kind : (n k : ℕ) (fs : List Frame) → Begins n k fs → among k every_kind ≡ true
begins_kind n k [] b = rw b.1 refl
begins_kind n k (f ∷ fs) b = held_kind (kind_in f) k b.1

placed_in : (ks : ℕ → ℕ) (n k r : ℕ) → r < n → may_hold (ks r) k ≡ true → Placed ks n k (suc r)
placed_in ks zero k r l h = absurd (omega arith)
placed_in ks (suc n) k r l h = let e : suc r - 1 ≡ r = omega arith in (omega arith, omega arith, rw e h)

broken_parts : (a b : Bool) → (a || not b) ≡ false → (a ≡ false) × (b ≡ true)
broken_parts true b e = never (sym e)
broken_parts false b e = (refl, not-false b e)

module _ (doc : List ℕ) (n : ℕ) (f g : ℕ → Brief) (a : Agree n f g) (k : ℕ) (t : Tag) where
  same_kind : (r : ℕ) → r < n → (g r).kind ≡ (f r).kind
  same_kind r l = ap (λ (b : Brief). b.kind) (sym (a r l))

  pub placed_new : (fs : List Frame) → Begins n k fs → Frames doc n f fs → Placed (λ j. (g j).kind) n k (parent_of fs)
  placed_new [] b h = rw b.0 (b.1, refl)
  placed_new (element c m r ∷ fs) b h = placed_in (λ j. (g j).kind) n k r h.0 (rw (same_kind r h.0 ∙ h.1) b.1)
  placed_new (definition d ∷ fs) b h = placed_in (λ j. (g j).kind) n k d.row h.0 (rw (same_kind d.row h.0 ∙ h.1) b.1)
  placed_new (passing p ns ∷ fs) b h = absurd b.0

  noted_frames : (fs : List Frame) → Frames doc n f fs → Frames doc n f (noted_in k t fs)
  noted_frames [] h = h
  noted_frames (element c m r ∷ fs) h = h
  noted_frames (definition d ∷ fs) h = (h.0, h.1, h.2, (λ e. h.3 (broken_parts d.parts.broken (complete k t) e).0), h.4)
  noted_frames (passing p ns ∷ fs) h = h

  module _ (e : (g n).kind ≡ k) where
    -- a row that is complete
    frames_row : (fs : List Frame) → Complete (g n) → Frames doc n f fs → Frames doc (suc n) g fs
    frames_row fs c h =
        frames_more doc n (suc n) g fs (omega arith) (λ i l m. let x : n ≡ i = omega arith in rw (← x) c) (frames_agree doc n f g fs a h)

    -- a part of a definition
    frames_part : (fs : List Frame) → Begins n k fs → among k parts ≡ true → (complete k t ≡ true → Complete (g n)) → Frames doc n f fs → Frames doc (suc n) g (noted_in k t fs)
    frames_part [] b q c h = never (rw b.1 at q)
    frames_part (element y m r ∷ fs) b q c h = never (sym h.2 ∙ part_parent y k b.1 q)
    frames_part (definition d ∷ fs) b q c h =
        let j = frames_agree doc n f g (definition d ∷ fs) a h in (
          omega (arith, h.0),
          j.1,
          j.2,
          (λ w i l m.
              let v = broken_parts d.parts.broken (complete k t) w in
              below i n (λ x. j.3 v.0 i l x) (λ x. let y : n ≡ i = omega arith in rw (← y) (c v.1))),
          j.4,
        )
    frames_part (passing p ns ∷ fs) b q c h = absurd b.0

    pub frames_entered : (fs : List Frame) → Begins n k fs → (due k t ≡ true → Complete (g n)) → Frames doc n f fs → Frames doc (suc n) g (frame_of k t n ∷ noted k t fs)
    frames_entered fs b c h = go (among k definitions) (among k parts) refl refl c
      where
        go : (x y : Bool) → among k definitions ≡ x → among k parts ≡ y → (if x (eqb (tag_reason k (attr (bytes "name") t) (attr (bytes "type") t)) 0) (if y (complete k t) true) ≡ true → Complete (g n)) → Frames doc (suc n) g (if x (definition (record {
          kind = k;
          at = t.at;
          name = tag_name t;
          row = n;
          reason = tag_reason k (attr (bytes "name") t) (attr (bytes "type") t);
          parts = record { count = 0; broken = false; basic = false };
        })) (element k (tag_name t) n) ∷ if y (noted_in k t fs) fs)
        go true true p q c = (omega arith, e, (λ w. c (eq-eqb _ 0 w)), (λ w i l m. absurd (omega arith)), frames_agree doc n f g (noted_in k t fs) a (noted_frames fs h))
        go true false p q c = (omega arith, e, (λ w. c (eq-eqb _ 0 w)), (λ w i l m. absurd (omega arith)), frames_agree doc n f g fs a h)
        go false true p q c = (omega arith, e, p, frames_part fs b q c h)
        go false false p q c = (omega arith, e, p, frames_row fs (c refl) h)
