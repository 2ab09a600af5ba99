-- From the row of an element to the whole element: refused, closed by its own tag, or with children.
use Prim.Native.Nat.{ℕ, ◌<◌}
use mathlib.Core.Path.{◌≡◌, refl, sym, ◌∙◌, ap}
use mathlib.Core.List.{List, [], ◌∷◌}
use mathlib.Core.Bool.{Bool, true, false, not}
use borrow.Author.Rules.{rules}
use native.Mathlib.Omega.{arith}
use lib.Dec.{eqb}
use lib.ListN.{length}
use lib.Seq.{take_at}
use Rattle.std.specs.Prelude.{Result, Ok, Err}
use Rattle.slices.specs.Bytes.{if}
use Rattle.document.specs.Kinds as kinds
use Rattle.document.specs.Tags.{Shown}
use Rattle.document.specs.Tokens.{Tag}
use Rattle.document.specs.Rows.{Row, Tables}
use Rattle.document.specs.Elements.{held_by, among}
use Rattle.document.specs.Reading.{tag_name, Frame, element, State, reading, parent_of, closed, with_row, noted, entered, begins}
use Rattle.document.specs.Outcome.{Lent, lent, Stands, Bounded, name_at, TagIs, Ends, Onward, Begins, Opening, Children, Contents, runs, whole}
use Rattle.document.specs.declared.StartTag.{StartTag}
use Rattle.document.specs.declared.Fill.{Fill}
use Rattle.document.specs.declared.Refusal.{Refusal}
use Rattle.document.proofs.Runs.{run_refused}

-- the name of a tag stands where the tag says
pub tag_named : {doc : List ℕ} {c : StartTag} {t : Tag} → TagIs doc c t → tag_name t ≡ name_at doc c.at c.len
tag_named z = rw (sym z.at, z.named.is)

module _ {doc : List ℕ} {k : ℕ} {c : StartTag} {p : ℕ} {f : Fill} {rows rows' bytes bytes' : List ℕ} {a : Result Fill Refusal} (o : Opening doc k c p f rows rows' bytes bytes' a) where
  pub opening_fault : {x : Refusal} {w : List ℕ} → a ≡ Err x → Begins doc k c p f (lent rows w bytes) (lent rows' w bytes') (Err x)
  unfolding begins
  opening_fault {x} e = record {
    onward = tt;
    ends = λ t fs u z h s. rw (h, (rw e at o).is t z) (run_refused whole doc c.end x);
  }

  module _ {g : Fill} (e : a ≡ Ok g) where
    done : Opening doc k c p f rows rows' bytes bytes' (Ok g)
    done = rw e at o

    pub opening_bounds : Bounded doc g
    opening_bounds = done.onward.2

    pub opening_owner : f.rows < g.rows
    opening_owner = omega (arith, done.onward.1)

    -- the state after the row
    after : (t : Tag) (fs : List Frame) (u : Tables Shown) → TagIs doc c t → parent_of fs ≡ p → (row : Row Shown) × (begins whole doc k t fs u ≡ entered whole doc k t row fs u) × ((w : List ℕ) → Stands u (lent rows w bytes) f → Stands (with_row row u) (lent rows' w bytes') g)
    unfolding begins
    after t fs u z h = let i = done.is t z in (i.0, rw (h, i.1), λ w s. i.2 u w s)

    at-end : g.at ≡ c.end
    at-end = done.onward.0 ∙ o.at

    pub opening_contents : {w : List ℕ} {b : Lent} {r : Result Fill Refusal} → among k kinds.definitions ≡ false → eqb k kinds.node ≡ false → Contents doc (held_by k) (not (eqb k kinds.annotation)) c f.rows g (lent rows' w bytes') b r → Begins doc k c p f (lent rows w bytes) b r
    opening_contents {w} {b} {r} d y l = record {
      onward = further r l.onward;
      ends = λ t fs u z h s.
          let i = after t fs u z h in
          carried (noted k t fs) r (ap (runs doc c.end) i.1 ∙ inside t fs u s.many i.0) (take_at u.rows (i.0 ∷ []) f.rows s.many)
          (l.ends k t (noted k t fs) (with_row i.0 u) refl refl z (i.2 w s));
    }
      where
        inside : (t : Tag) (fs : List Frame) (u : Tables Shown) → length u.rows ≡ f.rows → (row : Row Shown) → runs doc c.end (entered whole doc k t row fs u) ≡ runs doc g.at (if t.self (closed (noted k t fs) (with_row row u)) (reading (element k (tag_name t) f.rows ∷ noted k t fs) (with_row row u)))
        inside t fs u n row = rw (at-end, d, y, n)

        further : (r : Result Fill Refusal) → Onward doc g r → Onward doc f r
        further (Err x) h = tt
        further (Ok m) h = (omega (arith, done.onward.0, h.0), omega (arith, done.onward.1, h.1), h.2)

        carried : {s s' : State Shown} {before before' : List (Row Shown)} (fs : List Frame) (r : Result Fill Refusal) → s ≡ s' → before ≡ before' → Ends doc s' fs f.rows before b r → Ends doc s fs f.rows before' b r
        carried fs (Err x) h k e = h ∙ e
        carried fs (Ok m) h k e = (e.0, e.1, h ∙ e.2, e.3 ∙ k)

-- what follows the row of an element: nothing, or its children
module _ {doc hs : List ℕ} {docs : Bool} {c : StartTag} {i : ℕ} {f : Fill} {b : Lent} where
  pub contents_none : Bounded doc f → c.closes ≡ true → Contents doc hs docs c i f b b (Ok f)
  contents_none h x = record {
    onward = (omega arith, omega arith, h);
    ends = λ k t fs u e o z s. (u, s, rw (sym z.closes ∙ x), refl);
  }

  pub contents_children : {b' : Lent} {r : Result Fill Refusal} → c.closes ≡ false → Children doc hs docs c.at c.len i f b b' r → Contents doc hs docs c i f b b' r
  contents_children {b'} {r} x l = record {
    onward = l.onward;
    ends = λ k t fs u e o z s. rw (sym z.closes ∙ x, tag_named z) (l.ends k fs u e o s);
  }

pub ruleset openings = (opening_fault, opening_bounds, opening_owner, opening_contents, rules)

pub ruleset contents = (contents_none, contents_children)
