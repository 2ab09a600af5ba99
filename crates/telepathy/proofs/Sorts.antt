-- The kinds of definitions and of their parts, and the ways of a part.
use Prim.Native.Nat.{ℕ, ◌+◌, ◌≤◌, ◌<◌}
use mathlib.Core.Path.{◌≡◌, refl, ◌∙◌, ap}
use mathlib.Core.List.{List, [], ◌∷◌}
use mathlib.Core.Bool.{Bool, true, false, not}
use borrow.Author.Rules.{rules}
use borrow.Author.Tests.{eqb-true}
use native.Mathlib.Omega.{arith}
use lib.Dec.{eqb}
use lib.ListN.{take}
use lib.Seq.{take_at}
use Rattle.std.specs.Prelude.{Result, Ok, Err}
use Rattle.slices.specs.Bytes.{if}
use Rattle.document.specs.Kinds as kinds
use Rattle.document.specs.Tags.{Shown}
use Rattle.document.specs.Tokens.{Tag}
use Rattle.document.specs.Rows.{Row, Tables}
use Rattle.document.specs.Elements.{among, held_by}
use Rattle.document.specs.Reading.{Frame, State, parent_of, with_row, noted, entered, begins}
use Rattle.document.specs.Outcome.{Lent, lent, Stands, Ready, TagIs, Opening, Begins, Others, Child, Contents, Onward, Ends, runs, whole}
use Rattle.document.specs.declared.StartTag.{StartTag}
use Rattle.document.specs.declared.Fill.{Fill}
use Rattle.document.specs.declared.Refusal.{Refusal}
use Rattle.document.proofs.Openings.{opening_fault, opening_bounds, opening_owner, opening_contents}
use Rattle.document.proofs.Readers.{keeping}
use Rattle.document.proofs.Loops.{child_other, name_inside}
use Rattle.telepathy.specs.Outcome.{DefinitionKind, PartKind}

-- what holds of enumvalue and of member holds of the kind of a part
pub by_part : (P : ℕ → Type 0) → P kinds.enumvalue → P kinds.member → {k : ℕ} → PartKind k → P k
by_part P a b {k} h = go (eqb k kinds.enumvalue) (eqb k kinds.member) refl refl h.is
  where
    go : (x y : Bool) → eqb k kinds.enumvalue ≡ x → eqb k kinds.member ≡ y → if x true (if y true false) ≡ true → P k
    go true y e f i = rw (eqb-true k kinds.enumvalue e) a
    go false true e f i = rw (eqb-true k kinds.member f) b
    go false false e f i = let q : ◌≡◌ {A = ℕ} 0 1 = cc in absurd (omega arith)

-- what holds of the four kinds of definitions holds of the kind of a definition
pub by_definition : (P : ℕ → Type 0) → P kinds.simple_type → P kinds.enum → P kinds.struct → P kinds.mapping → {k : ℕ} → DefinitionKind k → P k
by_definition P a b c d {k} h = go (eqb k kinds.simple_type) (eqb k kinds.enum) (eqb k kinds.struct) (eqb k kinds.mapping) refl refl refl refl h.is
  where
    go : (w x y z : Bool) → eqb k kinds.simple_type ≡ w → eqb k kinds.enum ≡ x → eqb k kinds.struct ≡ y → eqb k kinds.mapping ≡ z → if w true (if x true (if y true (if z true false))) ≡ true → P k
    go true x y z e f g h i = rw (eqb-true k kinds.simple_type e) a
    go false true y z e f g h i = rw (eqb-true k kinds.enum f) b
    go false false true z e f g h i = rw (eqb-true k kinds.struct g) c
    go false false false true e f g h i = rw (eqb-true k kinds.mapping h) d
    go false false false false e f g h i = let q : ◌≡◌ {A = ℕ} 0 1 = cc in absurd (omega arith)

-- ---- the children of a part

-- the kinds of docstrings and of elements that their parent does not hold
pub child_none : {doc : List ℕ} {c : StartTag} {i : ℕ} {f : Fill} {rows rows' w w' bytes : List ℕ} {r : Result Fill Refusal} → Others doc c i f rows rows' w w' r → Child doc [] true c i f (lent rows w bytes) (lent rows' w' bytes) r
child_none h = child_other refl h

pub ruleset part_children = (child_none, keeping, rules)

-- ---- the row of a part

-- an answer of a run is one of another that comes to the same
pub carried : {s s' : State Shown} {before before' : List (Row Shown)} (doc : List ℕ) (n : ℕ) (fs : List Frame) (b : Lent) (r : Result Fill Refusal) → s ≡ s' → before ≡ before' → Ends doc s' fs n before b r → Ends doc s fs n before' b r
carried doc n fs b (Err x) h k e = h ∙ e
carried doc n fs b (Ok g) h k e = (e.0, e.1, h ∙ e.2, e.3 ∙ k)

-- from the row on, whatever the element is
module _ {doc : List ℕ} {k : ℕ} {c : StartTag} {p : ℕ} {f : Fill} {rows rows' bytes bytes' : List ℕ} {a : Result Fill Refusal} (o : Opening doc k c p f rows rows' bytes bytes' a) {g : Fill} (e : a ≡ Ok g) where
  done : Opening doc k c p f rows rows' bytes bytes' (Ok g)
  done = rw e at o

  pub opening_end : g.at ≡ c.end
  opening_end = done.onward.0 ∙ o.at

  after : (t : Tag) (fs : List Frame) (u : Tables Shown) → TagIs doc c t → parent_of fs ≡ p → (row : Row Shown) × (begins whole doc k t fs u ≡ entered whole doc k t row fs u) × ((w : List ℕ) → Stands u (lent rows w bytes) f → Stands (with_row row u) (lent rows' w bytes') g)
  unfolding begins
  after t fs u z h = let i = done.is t z in (i.0, rw (h, i.1), λ w s. i.2 u w s)

  pub opening_then :
      {w : List ℕ} {b : Lent} {r : Result Fill Refusal} →
      Onward doc f r →
      ((t : Tag) (fs : List Frame) (u : Tables Shown) (row : Row Shown) → TagIs doc c t → Stands u (lent rows w bytes) f → Stands (with_row row u) (lent rows' w bytes') g → Ends doc (runs doc c.end (entered whole doc k t row fs u)) (noted k t fs) f.rows (take f.rows (with_row row u).rows) b r) →
      Begins doc k c p f (lent rows w bytes) b r
  opening_then {w} {b} {r} h l = record {
    onward = h;
    ends = λ t fs u z m s.
        let i = after t fs u z m in
        carried doc f.rows (noted k t fs) b r (ap (runs doc c.end) i.1) (take_at u.rows (i.0 ∷ []) f.rows s.many) (l t fs u i.0 z s (i.2 w s));
  }

pub part_done : {doc : List ℕ} {c : StartTag} {p : ℕ} {f : Fill} {rows rows' w bytes bytes' : List ℕ} {a : Result Fill Refusal} {g : Fill} {b : Lent} {r : Result Fill Refusal} → PartKind c.kind → Opening doc c.kind c p f rows rows' bytes bytes' a → a ≡ Ok g → Contents doc [] true c f.rows g (lent rows' w bytes') b r → Begins doc c.kind c p f (lent rows w bytes) b r
part_done h o e l =
    opening_contents o e (by_part (λ m. among m kinds.definitions ≡ false) refl refl h) (by_part (λ m. eqb m kinds.node ≡ false) refl refl h)
    (rw (by_part (λ m. held_by m ≡ []) refl refl h, by_part (λ m. not (eqb m kinds.annotation) ≡ true) refl refl h) l)

pub part_parent : {doc : List ℕ} {c : StartTag} {f : Fill} {i : ℕ} → Ready doc c f → i < f.rows → i + 1 ≤ 1048576
part_parent r h = omega (arith, r.few, r.sound.small, r.fits.inside, r.fits.within)

pub ruleset openings = (part_parent, name_inside, opening_fault, opening_bounds, opening_owner, part_done, keeping, rules)
