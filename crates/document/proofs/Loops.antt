-- The loop over the children of an element: what it has read so far, and what each way of a turn makes of that.
use Prim.Native.Nat.{ℕ, ◌+◌, ◌-◌, ◌≤◌, ◌<◌}
use mathlib.Core.Path.{◌≡◌, refl, sym, ◌∙◌}
use mathlib.Core.List.{List, [], ◌∷◌}
use mathlib.Core.Bool.{Bool, true, false, not, ◌&&◌, and-false}
use borrow.Author.Rules.{rules}
use borrow.Author.Tests.{ne_eqb}
use native.Mathlib.Numerals.{add-one}
use native.Mathlib.Omega.{arith}
use lib.Dec.{eqb}
use lib.ListN.{length, take}
use lib.Seq.{take-take}
use Rattle.std.specs.Prelude.{Result, Ok, Err}
use Rattle.slices.specs.Bytes.{if}
use Rattle.document.specs.Kinds as kinds
use Rattle.document.specs.Tags.{Shown}
use Rattle.document.specs.Tokens.{Tag}
use Rattle.document.specs.Rows.{Row, Tables}
use Rattle.document.specs.Elements.{kind_of, held_by, may_hold, among}
use Rattle.document.specs.Reading.{Frame, element, State, reading, child, noted, begins, unsupported}
use Rattle.document.specs.Outcome.{Lent, lent, Stands, Bounded, Ready, Steps, Ends, Begins, Ignores, Captures, Others, Child, Children, name_at, runs, whole, moved}
use Rattle.document.specs.declared.StartTag.{StartTag}
use Rattle.document.specs.declared.Fill.{Fill}
use Rattle.document.specs.declared.Refusal.{Refusal}
use Rattle.document.specs.declared.Next.{Next}
use Rattle.document.specs.declared.Closing.{Closing}

pub moved_stands : {u : Tables Shown} {b : Lent} {f : Fill} (at : ℕ) → Stands u b f → Stands u b (moved f at)
moved_stands at s = record { rows = s.rows; many = s.many; warnings = s.warnings; text = s.text }

-- the name of a tag lies in the document
pub name_inside : {doc : List ℕ} {c : StartTag} {f : Fill} → Ready doc c f → c.at + c.len ≤ length doc
name_inside r = omega (arith, r.fits.inside, r.fits.within)

pub moved_owner : {i at n w t : ℕ} {m : Fill} → i < n → m ≡ record { at = at; rows = n; warnings = w; text = t } → i < m.rows
moved_owner h y = rw y h

-- a loop over an element with row i that began with f₀ and b₀ came to f and b
pub record Sofar (doc hs : List ℕ) (docs : Bool) (at len i : ℕ) (f₀ : Fill) (b₀ : Lent) (f : Fill) (b : Lent) : Type 0 where
  pub since : f₀.at ≤ f.at
  pub grown : f₀.rows ≤ f.rows
  pub bounds : Bounded doc f
  pub owner : i < f.rows
  pub leads :
      (k : ℕ) (fs : List Frame) (u : Tables Shown) →
      held_by k ≡ hs →
      not (eqb k kinds.annotation) ≡ docs →
      Stands u b₀ f₀ →
      (v : Tables Shown)
      × Stands v b f
      × (runs doc f₀.at (reading (element k (name_at doc at len) i ∷ fs) u) ≡ runs doc f.at (reading (element k (name_at doc at len) i ∷ fs) v))
      × (take i v.rows ≡ take i u.rows)

module _ {doc hs : List ℕ} {docs : Bool} {at len i : ℕ} {f₀ : Fill} {b₀ : Lent} where
  pub loop_begins : Bounded doc f₀ → i < f₀.rows → Sofar doc hs docs at len i f₀ b₀ f₀ b₀
  loop_begins h o = record {
    since = omega arith;
    grown = omega arith;
    bounds = h;
    owner = o;
    leads = λ k fs u e d s. (u, s, refl, refl);
  }

  module _ {f : Fill} {b : Lent} (g : Sofar doc hs docs at len i f₀ b₀ f b) {r : Result Next Refusal} (s : Steps doc f.at at len r) where
    pub loop_fault : {x : Refusal} → r ≡ Err x → Children doc hs docs at len i f₀ b₀ b (Err x)
    loop_fault q = record {
      onward = tt;
      ends = λ k fs u e d z.
          let x = g.leads k fs u e d z in
          x.2 ∙ (rw q at s).leads (element k (name_at doc at len) i) fs x.0 refl;
    }

    pub loop_close : {q : Closing} {m : Fill} → r ≡ Ok (Next.Close q) → m ≡ moved f q.end → Children doc hs docs at len i f₀ b₀ b (Ok m)
    loop_close {q} e y =
        let c : Steps doc f.at at len (Ok (Next.Close q)) = rw e at s in
        rw y
        record {
          onward = (
            omega (arith, g.since, c.onward),
            g.grown,
            record {
              sound = g.bounds.sound;
              inside = c.onward.2;
              few = omega (arith, g.bounds.few, c.onward);
              text = omega (arith, g.bounds.text, c.onward);
            },
          );
          ends = λ k fs u e d z.
              let x = g.leads k fs u e d z in
              (x.0, moved_stands q.end x.1, x.2 ∙ c.leads (element k (name_at doc at len) i) fs x.0 refl, x.3);
        }

    module _ {c : StartTag} (q : r ≡ Ok (Next.Start c)) where
      start : Steps doc f.at at len (Ok (Next.Start c))
      start = rw q at s

      pub loop_ready : {m : Fill} → m ≡ moved f c.end → Ready doc c m
      loop_ready y = rw y record {
        sound = g.bounds.sound;
        fits = start.onward.1;
        at = refl;
        few = omega (arith, g.bounds.few, start.onward.0);
        text = omega (arith, g.bounds.text, start.onward.0);
      }

      module _ {b' : Lent} {a : Result Fill Refusal} {m : Fill} (h : Child doc hs docs c i m b b' a) (y : m ≡ moved f c.end) where
        taken : {x : Result Fill Refusal} → a ≡ x → Child doc hs docs c i (moved f c.end) b b' x
        taken w = rw (y, w) at h

        pub loop_child_fault : {x : Refusal} → a ≡ Err x → Children doc hs docs at len i f₀ b₀ b' (Err x)
        loop_child_fault w = record {
          onward = tt;
          ends = λ k fs u e d z.
              let x = g.leads k fs u e d z in
              let v' = start.leads (element k (name_at doc at len) i) fs x.0 refl in
              x.2 ∙ v'.2 ∙ (taken w).ends k (name_at doc at len) v'.0 fs x.0 e d v'.1 (moved_stands c.end x.1);
        }

        pub loop_child : {g' : Fill} → a ≡ Ok g' → Sofar doc hs docs at len i f₀ b₀ g' b'
        loop_child {g'} w =
            let j : Child doc hs docs c i (moved f c.end) b b' (Ok g') = taken w in
            record {
              since = omega (arith, g.since, start.onward.0, start.onward.1.inside, j.onward.0);
              grown = omega (arith, g.grown, j.onward.1);
              bounds = j.onward.2;
              owner = omega (arith, g.owner, j.onward.1);
              leads = λ k fs u e d z.
                  let x = g.leads k fs u e d z in
                  let v' = start.leads (element k (name_at doc at len) i) fs x.0 refl in
                  let o = j.ends k (name_at doc at len) v'.0 fs x.0 e d v'.1 (moved_stands c.end x.1) in
                  (o.0, o.1, x.2 ∙ v'.2 ∙ o.2, o.3 ∙ x.3);
            }

        pub loop_less : {g' : Fill} → a ≡ Ok g' → length doc - g'.at < length doc - f.at
        loop_less {g'} w =
            let j : Child doc hs docs c i (moved f c.end) b b' (Ok g') = taken w in
            omega (arith, start.onward.0, start.onward.1.inside, j.onward.0, j.onward.2.inside)

pub ruleset loops = (moved_owner, loop_begins, loop_fault, loop_close, loop_ready, loop_child_fault, loop_child, loop_less, rules)

-- a child: a docstring, an element that may stand here, or any other
pub among_not : (c x : ℕ) (xs : List ℕ) → (c ≡ x → ⊥) → among c xs ≡ false → among c (x ∷ xs) ≡ false
among_not c x xs n e = rw (ne_eqb c x n) e

-- what begins in another way than by its row in the tables alone
abbrev pub parts_and_docstring : List ℕ
parts_and_docstring = kinds.enumvalue ∷ kinds.member ∷ kinds.docstring ∷ []

none_of : (m : ℕ) → among m parts_and_docstring ≡ false → (eqb m kinds.enumvalue ≡ false) × (eqb m kinds.member ≡ false) × (eqb m kinds.docstring ≡ false)
none_of m e = go (eqb m kinds.enumvalue) (eqb m kinds.member) (eqb m kinds.docstring) e
  where
    go : (x y z : Bool) → if x true (if y true (if z true false)) ≡ false → (x ≡ false) × (y ≡ false) × (z ≡ false)
    go true y z e = (cc, cc, cc)
    go false true z e = (cc, cc, cc)
    go false false true e = (cc, cc, cc)
    go false false false e = (refl, refl, refl)

pub rows-kept : (i n : ℕ) (v u : List (Row Shown)) → i ≤ n → take n v ≡ u → take i v ≡ take i u
rows-kept i n v u h e = rw (← e) (sym (take-take i n v h))

-- an answer that leaves the first n rows leaves the first i of them
abbrev kept : (doc : List ℕ) (s s' : State Shown) (fs : List Frame) (n i : ℕ) (u : List (Row Shown)) (b : Lent) (r : Result Fill Refusal) → i ≤ n → s ≡ s' → Ends doc s' fs n u b r → Ends doc s fs i (take i u) b r
kept doc s s' fs n i u b (Err x) h q e = q ∙ e
kept doc s s' fs n i u b (Ok g) h q e = (e.0, e.1, q ∙ e.2, rows-kept i n e.0.rows u h e.3)

not_held : (doc : List ℕ) (at m i : ℕ) (t : Tag) (fs : List Frame) (u : Tables Shown) → (eqb (kind_of t.name) kinds.docstring && not (eqb m kinds.annotation)) ≡ false → among (kind_of t.name) (held_by m) ≡ false → runs doc at (child whole doc m i t fs u) ≡ runs doc at (unsupported whole doc t fs u)
unfolding may_hold
not_held doc at m i t fs u j y = rw (j, y)

module _ {doc : List ℕ} {c : StartTag} {i : ℕ} {f : Fill} where
  pub other_docstring : {rows rows' w : List ℕ} {r : Result Fill Refusal} → c.kind ≡ kinds.docstring → Captures doc c i f rows rows' r → Others doc c i f rows rows' w w r
  other_docstring {rows} {rows'} {w} {r} k h = record {
    onward = h.onward;
    ends = λ m t fs u bytes a o z s.
        let j : kind_of t.name ≡ kinds.docstring = sym z.kind ∙ k in
        rw (j, o) (h.ends t fs u w bytes z s);
  }

  pub other_unsupported : {rows w w' : List ℕ} {r : Result Fill Refusal} → i < f.rows → (c.kind ≡ kinds.docstring → ⊥) → Ignores doc c f w w' r → Others doc c i f rows rows w w' r
  other_unsupported {rows} {w} {w'} {r} l k h = record {
    onward = h.onward;
    ends = λ m t fs u bytes a o z s.
        let j : (eqb (kind_of t.name) kinds.docstring && not (eqb m kinds.annotation)) ≡ false = rw (ne_eqb (kind_of t.name) kinds.docstring (λ q. k (z.kind ∙ q))) in
        kept doc (runs doc c.end (child whole doc m i t fs u)) (runs doc c.end (unsupported whole doc t fs u)) fs f.rows i u.rows (lent rows w' bytes) r (omega arith)
        (not_held doc c.end m i t fs u j (rw (← z.kind) a))
        (h.ends t fs u rows bytes z s);
  }

  -- in an annotation every child is unsupported
  pub child_bare : {rows w w' bytes : List ℕ} {r : Result Fill Refusal} → i < f.rows → Ignores doc c f w w' r → Child doc [] false c i f (lent rows w bytes) (lent rows w' bytes) r
  child_bare {rows} {w} {w'} {bytes} {r} l h = record {
    onward = h.onward;
    ends = λ m n t fs u e o z s.
        let j : (eqb (kind_of t.name) kinds.docstring && not (eqb m kinds.annotation)) ≡ false = rw o (and-false (eqb (kind_of t.name) kinds.docstring)) in
        kept doc (runs doc c.end (child whole doc m i t (element m n i ∷ fs) u)) (runs doc c.end (unsupported whole doc t (element m n i ∷ fs) u)) (element m n i ∷ fs) f.rows i u.rows (lent rows w' bytes) r (omega arith)
        (not_held doc c.end m i t (element m n i ∷ fs) u j (rw e))
        (h.ends t (element m n i ∷ fs) u rows bytes z s);
  }

  pub child_other : {hs rows rows' w w' bytes : List ℕ} {r : Result Fill Refusal} → among c.kind hs ≡ false → Others doc c i f rows rows' w w' r → Child doc hs true c i f (lent rows w bytes) (lent rows' w' bytes) r
  child_other {bytes = bytes} a h = record {
    onward = h.onward;
    ends = λ k n t fs u e o z s. h.ends k t (element k n i ∷ fs) u bytes (rw e a) o z s;
  }

pub ruleset others = (other_docstring, other_unsupported, rules)

module _ {doc hs : List ℕ} {docs : Bool} {c : StartTag} {i : ℕ} {f : Fill} where
  pub child_begins : {b b' : Lent} {m : ℕ} {r : Result Fill Refusal} → i < f.rows → c.kind ≡ m → among m hs ≡ true → among m parts_and_docstring ≡ false → Begins doc m c (i + 1) f b b' r → Child doc hs docs c i f b b' r
  unfolding may_hold
  child_begins {b} {b'} {m} {r} l k a x h = record {
    onward = h.onward;
    ends = λ j n t fs u e o z s.
        let q : kind_of t.name ≡ m = sym z.kind ∙ k in
        let y : among m (held_by j) ≡ true = rw e a in
        kept doc (runs doc c.end (child whole doc j i t (element j n i ∷ fs) u)) (runs doc c.end (begins whole doc m t (element j n i ∷ fs) u)) (element j n i ∷ fs) f.rows i u.rows b' r (omega arith)
        (held j t (element j n i ∷ fs) u q y)
        (rw (alone t (element j n i ∷ fs)) at (h.ends t (element j n i ∷ fs) u z (rw add-one) s));
  }
    where
      no_docstring : eqb m kinds.docstring ≡ false
      no_docstring = (none_of m x).2

      held : (j : ℕ) (t : Tag) (fs : List Frame) (u : Tables Shown) → kind_of t.name ≡ m → among m (held_by j) ≡ true → runs doc c.end (child whole doc j i t fs u) ≡ runs doc c.end (begins whole doc m t fs u)
      held j t fs u q y = rw (q, no_docstring, y)

      alone : (t : Tag) (fs : List Frame) → noted m t fs ≡ fs
      alone t fs = rw ((none_of m x).0, (none_of m x).1)
