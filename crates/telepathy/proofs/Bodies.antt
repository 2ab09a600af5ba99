-- The content of a definition: its parts and other children, and the loop over them.
use Prim.Native.Nat.{ℕ, ◌+◌, ◌-◌, ◌≤◌, ◌<◌}
use mathlib.Core.Path.{◌≡◌, refl, sym, ◌∙◌, ap, subst}
use mathlib.Core.List.{List, ◌∷◌}
use mathlib.Core.Bool.{Bool, true, false, not}
use borrow.Author.Rules.{rules}
use native.Mathlib.Numerals.{add-one}
use native.Mathlib.Omega.{arith}
use lib.Dec.{eqb}
use lib.ListN.{length, take}
use Rattle.std.specs.Prelude.{Result, Ok, Err}
use Rattle.slices.specs.Bytes.{if}
use Rattle.document.specs.Kinds as kinds
use Rattle.document.specs.Tags.{Shown}
use Rattle.document.specs.Tokens.{Tag}
use Rattle.document.specs.Rows.{Row, Tables}
use Rattle.document.specs.Elements.{kind_of, among, held_by, may_hold}
use Rattle.document.specs.Reading as reading
use Rattle.document.specs.Reading.{Name, Frame, definition, State, reading, closed, judged, child, begins, noted, one_more}
use Rattle.document.specs.Outcome.{Lent, lent, name_at, Stands, Bounded, Ready, Steps, Begins, Others, runs, whole, moved, Keeps}
use Rattle.document.specs.declared.Reader.{Reader}
use Rattle.document.specs.declared.Refusal.{Refusal}
use Rattle.document.specs.declared.StartTag.{StartTag}
use Rattle.document.specs.declared.Fill.{Fill}
use Rattle.document.specs.declared.Next.{Next}
use Rattle.document.specs.declared.Closing.{Closing}
use Rattle.document.proofs.Openings.{tag_named}
use Rattle.document.proofs.Readers.{keeping}
use Rattle.document.proofs.Loops.{moved_stands, rows-kept}
use Rattle.telepathy.specs.Outcome.{DefinitionKind, PartKind, Holds, Unseen, More, Noted, Child, Body, Content, Ends, seen, open_as, no_parts}
use Rattle.telepathy.specs.declared.Parts.{Parts}
use Rattle.telepathy.specs.declared.Inner.{Inner}
use Rattle.telepathy.proofs.Sorts.{by_part, by_definition}

-- ---- a part

-- the part is noted in its definition
noted_is : {m : ℕ} (k i lt why : ℕ) (n : Name) (t : Tag) (fs : List Frame) (p q : Parts) → PartKind m → seen q ≡ one_more m t (seen p) → noted m t (definition (open_as k i lt n why p) ∷ fs) ≡ definition (open_as k i lt n why q) ∷ fs
noted_is {m} k i lt why n t fs p q h e = rw h.is (ap (λ (x : reading.Parts). definition (record { kind = k; at = lt; name = n; row = i; reason = why; parts = x }) ∷ fs) (sym e))

module _ {doc : List ℕ} {c : StartTag} {i : ℕ} {f : Fill} {b b' : Lent} {a : Result Fill Refusal} (h : Begins doc c.kind c (i + 1) f b b' a) where
  pub noted_fault : {p : Parts} {x : Refusal} → a ≡ Err x → Noted doc c i p f b b' (Err x)
  noted_fault {p} e = record {
    onward = tt;
    ends = λ k lt why n t fs u z s. (rw e at h).ends t (definition (open_as k i lt n why p) ∷ fs) u z (rw add-one) s;
  }

  pub noted_done : {p q : Parts} {g : Fill} → p.count < f.at → More doc c p q → a ≡ Ok g → Noted doc c i p f b b' (Ok (record { fill = g; parts = q }))
  noted_done {p} {q} {g} l m e =
      let j : Begins doc c.kind c (i + 1) f b b' (Ok g) = rw e at h in
      record {
        onward = (j.onward.0, j.onward.1, omega (arith, l, j.onward.0, m.counts), j.onward.2);
        ends = λ k lt why n t fs u z s.
            let x = j.ends t (definition (open_as k i lt n why p) ∷ fs) u z (rw add-one) s in
            (x.0, x.1, x.2 ∙ ap (λ (gs : List Frame). runs doc g.at (closed gs x.0)) (noted_is k i lt why n t fs p q m.kind (m.is t z)), x.3);
      }

-- ---- a child

-- what a definition holds is an enumvalue or a member
pub held_part : {k m : ℕ} {o : Bool} → DefinitionKind k → Holds k m o → o ≡ true → PartKind m
held_part {k} {m} d y e = by_definition (λ j. among m (held_by j) ≡ true → PartKind m) (λ x. let q : ◌≡◌ {A = ℕ} 0 1 = cc in absurd (omega arith)) (λ x. record { is = first (eqb m kinds.enumvalue) (eqb m kinds.member) x }) (λ x. record { is = second (eqb m kinds.enumvalue) (eqb m kinds.member) x }) (λ x. record { is = second (eqb m kinds.enumvalue) (eqb m kinds.member) x }) d (sym y.is ∙ e)
  where
    first : (a b : Bool) → if a true false ≡ true → if a true (if b true false) ≡ true
    first true b e = refl
    first false b e = let q : ◌≡◌ {A = ℕ} 0 1 = cc in absurd (omega arith)

    second : (a b : Bool) → if b true false ≡ true → if a true (if b true false) ≡ true
    second true b e = refl
    second false true e = refl
    second false false e = e

module _ {k : ℕ} (d : DefinitionKind k) {c : StartTag} {o : Bool} (y : Holds k c.kind o) where
  module _ {doc : List ℕ} {i : ℕ} {p : Parts} {f : Fill} where
    pub child_part : {b b' : Lent} {r : Result Inner Refusal} → o ≡ true → i < f.rows → Noted doc c i p f b b' r → Child doc k i c p f b b' r
    unfolding may_hold
    child_part {b} {b'} {r} e l h = record {
      onward = h.onward;
      ends = λ lt why n t fs u z s.
          kept (λ q v. reading (definition (open_as k i lt n why q) ∷ fs) v) u.rows r (begun t (definition (open_as k i lt n why p) ∷ fs) u z.kind)
          (h.ends k lt why n t fs u z s);
    }
      where
        begun : (t : Tag) (fs : List Frame) (u : Tables Shown) → c.kind ≡ kind_of t.name → runs doc c.end (child whole doc k i t fs u) ≡ runs doc c.end (begins whole doc c.kind t fs u)
        begun t fs u q = rw (← q, by_part (λ m. eqb m kinds.docstring ≡ false) refl refl (held_part d y e), sym y.is ∙ e)

        kept : {s s' : State Shown} (after : Parts → Tables Shown → State Shown) (u : List (Row Shown)) (r : Result Inner Refusal) → s ≡ s' → Ends doc s' after f.rows u b' r → Ends doc s after i (take i u) b' r
        kept after u (Err y) e x = e ∙ x
        kept after u (Ok y) e x = (x.0, x.1, e ∙ x.2, rows-kept i f.rows x.0.rows u (omega arith) x.3)

    module _ {rows rows' w w' bytes : List ℕ} {a : Result Fill Refusal} (e : o ≡ false) (h : Others doc c i f rows rows' w w' a) where
      pub child_other_fault : {x : Refusal} → a ≡ Err x → Child doc k i c p f (lent rows w bytes) (lent rows' w' bytes) (Err x)
      child_other_fault x = record {
        onward = tt;
        ends = λ lt why n t fs u z s. (rw x at h).ends k t (definition (open_as k i lt n why p) ∷ fs) u bytes (sym y.is ∙ e) (by_definition (λ m. not (eqb m kinds.annotation) ≡ true) refl refl refl refl d) z s;
      }

      pub child_other_done : {g : Fill} → p.count < f.at → a ≡ Ok g → Child doc k i c p f (lent rows w bytes) (lent rows' w' bytes) (Ok (record { fill = g; parts = p }))
      child_other_done {g} l x =
          let j : Others doc c i f rows rows' w w' (Ok g) = rw x at h in
          record {
            onward = (j.onward.0, j.onward.1, omega (arith, j.onward.0), j.onward.2);
            ends = λ lt why n t fs u z s. j.ends k t (definition (open_as k i lt n why p) ∷ fs) u bytes (sym y.is ∙ e) (by_definition (λ m. not (eqb m kinds.annotation) ≡ true) refl refl refl refl d) z s;
          }

pub ruleset children = (held_part, child_part, child_other_fault, child_other_done, keeping, rules)

-- ---- the loop over the children of a definition with row i: it began with f₀ and b₀, and came to f, p and b

pub record Sofar (doc : List ℕ) (k at len i : ℕ) (f₀ : Fill) (b₀ : Lent) (f : Fill) (p : Parts) (b : Lent) : Type 0 where
  pub since : f₀.at ≤ f.at
  pub grown : f₀.rows ≤ f.rows
  pub bounds : Bounded doc f
  pub owner : i < f.rows
  pub few : p.count ≤ f.at
  pub leads :
      (lt why : ℕ) (fs : List Frame) (u : Tables Shown) →
      Stands u b₀ f₀ →
      (v : Tables Shown)
      × Stands v b f
      × (runs doc f₀.at (reading (definition (open_as k i lt (name_at doc at len) why no_parts) ∷ fs) u) ≡ runs doc f.at (reading (definition (open_as k i lt (name_at doc at len) why p) ∷ fs) v))
      × (take i v.rows ≡ take i u.rows)

module _ {doc : List ℕ} {k at len i : ℕ} {f₀ : Fill} {b₀ : Lent} where
  pub body_begins : {p : Parts} → Bounded doc f₀ → i < f₀.rows → Unseen p → Sofar doc k at len i f₀ b₀ f₀ p b₀
  body_begins {p} h o e = rw e.is (record {
    since = omega arith;
    grown = omega arith;
    bounds = h;
    owner = o;
    few = omega arith;
    leads = λ lt why fs u s. (u, s, refl, refl);
  })

  module _ {f : Fill} {p : Parts} {b : Lent} (g : Sofar doc k at len i f₀ b₀ f p b) {r : Result Next Refusal} (s : Steps doc f.at at len r) where
    pub body_fault : {x : Refusal} → r ≡ Err x → Body doc k at len i f₀ b₀ b (Err x)
    body_fault e = record {
      onward = tt;
      ends = λ lt why fs u z.
          let x = g.leads lt why fs u z in
          x.2 ∙ (rw e at s).leads (definition (open_as k i lt (name_at doc at len) why p)) fs x.0 refl;
    }

    pub body_close : {q : Closing} → r ≡ Ok (Next.Close q) → Body doc k at len i f₀ b₀ b (Ok (record { fill = moved f q.end; parts = p }))
    body_close {q} e =
        let c : Steps doc f.at at len (Ok (Next.Close q)) = rw e at s in
        record {
          onward = (
            omega (arith, g.since, c.onward),
            g.grown,
            omega (arith, g.few, c.onward),
            record {
              sound = g.bounds.sound;
              inside = c.onward.2;
              few = omega (arith, g.bounds.few, c.onward);
              text = omega (arith, g.bounds.text, c.onward);
            },
          );
          ends = λ lt why fs u z.
              let x = g.leads lt why fs u z in
              (x.0, moved_stands q.end x.1, x.2 ∙ c.leads (definition (open_as k i lt (name_at doc at len) why p)) fs x.0 refl, x.3);
        }

    module _ {c : StartTag} (q : r ≡ Ok (Next.Start c)) where
      start : Steps doc f.at at len (Ok (Next.Start c))
      start = rw q at s

      pub body_ready : Ready doc c (moved f c.end)
      body_ready = record {
        sound = g.bounds.sound;
        fits = start.onward.1;
        at = refl;
        few = omega (arith, g.bounds.few, start.onward.0);
        text = omega (arith, g.bounds.text, start.onward.0);
      }

      pub body_count : p.count < c.end
      body_count = omega (arith, g.few, start.onward.0, start.onward.1.inside)

      module _ {b' : Lent} {a : Result Inner Refusal} (h : Child doc k i c p (moved f c.end) b b' a) where
        pub body_child_fault : {x : Refusal} → a ≡ Err x → Body doc k at len i f₀ b₀ b' (Err x)
        body_child_fault w = record {
          onward = tt;
          ends = λ lt why fs u z.
              let x = g.leads lt why fs u z in
              let y = start.leads (definition (open_as k i lt (name_at doc at len) why p)) fs x.0 refl in
              x.2 ∙ y.2 ∙ (rw w at h).ends lt why (name_at doc at len) y.0 fs x.0 y.1 (moved_stands c.end x.1);
        }

        pub body_child : {g' : Fill} {p' : Parts} → a ≡ Ok (record { fill = g'; parts = p' }) → Sofar doc k at len i f₀ b₀ g' p' b'
        body_child {g'} {p'} w =
            let j : Child doc k i c p (moved f c.end) b b' (Ok (record { fill = g'; parts = p' })) = rw w at h in
            record {
              since = omega (arith, g.since, start.onward.0, start.onward.1.inside, j.onward.0);
              grown = omega (arith, g.grown, j.onward.1);
              bounds = j.onward.3;
              owner = omega (arith, g.owner, j.onward.1);
              few = j.onward.2;
              leads = λ lt why fs u z.
                  let x = g.leads lt why fs u z in
                  let y = start.leads (definition (open_as k i lt (name_at doc at len) why p)) fs x.0 refl in
                  let o = j.ends lt why (name_at doc at len) y.0 fs x.0 y.1 (moved_stands c.end x.1) in
                  (o.0, o.1, x.2 ∙ y.2 ∙ o.2, o.3 ∙ x.3);
            }

        pub body_less : {g' : Fill} {p' : Parts} → a ≡ Ok (record { fill = g'; parts = p' }) → length doc - g'.at < length doc - f.at
        body_less {g'} {p'} w =
            let j : Child doc k i c p (moved f c.end) b b' (Ok (record { fill = g'; parts = p' })) = rw w at h in
            omega (arith, start.onward.0, start.onward.1.inside, j.onward.0, j.onward.3.inside)

-- the same of the document of a reader that keeps it
pub child_kept : {r r' : Reader} {k i : ℕ} {c : StartTag} {p : Parts} {f : Fill} {b b' : Lent} {a : Result Inner Refusal} → Keeps r r' → Child r'.doc.now k i c p f b b' a → Child r.doc.now k i c p f b b' a
child_kept h l = rw h.doc at l

-- ---- all of the content

module _ {doc : List ℕ} {c : StartTag} {i : ℕ} {f : Fill} {b : Lent} where
  pub content_none : {p : Parts} → DefinitionKind c.kind → Bounded doc f → c.closes ≡ true → Unseen p → Content doc c i f b b (Ok (record { fill = f; parts = p }))
  content_none {p} d h x e = rw e.is (record {
    kind = d;
    onward = (omega arith, omega arith, omega arith, h);
    ends = λ why t fs u z s. (u, s, rw (sym z.closes ∙ x), refl);
  })

  pub content_body : {b' : Lent} {r : Result Inner Refusal} → DefinitionKind c.kind → c.closes ≡ false → Body doc c.kind c.at c.len i f b b' r → Content doc c i f b b' r
  content_body {b'} {r} d x l = record {
    kind = d;
    onward = l.onward;
    ends = λ why t fs u z s. rw (sym z.closes ∙ x) (subst (λ (n : Name). Ends doc (runs doc f.at (reading (definition (open_as c.kind i t.at n why no_parts) ∷ fs) u)) (λ q v. closed fs (judged (open_as c.kind i t.at n why q) v)) i (take i u.rows) b' r) (sym (tag_named z)) (l.ends t.at why fs u s));
  }

pub ruleset contents = (content_none, content_body, keeping, rules)
