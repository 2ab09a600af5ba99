-- A definition is kept or dropped; from its row to the whole of it.
use Prim.Native.Nat.{ℕ, ◌+◌, ◌≤◌, ◌<◌}
use mathlib.Core.Path.{◌≡◌, refl, sym, ◌∙◌, ap}
use mathlib.Core.List.{List, [], ◌∷◌}
use mathlib.Core.Bool.{false}
use borrow.Author.Rules.{rules}
use borrow.Author.Tests.{ne_eqb}
use native.Mathlib.Omega.{arith}
use lib.Dec.{eqb}
use lib.ListN.{length, take}
use lib.Seq.{take-take, take_at}
use Rattle.std.specs.Prelude.{Result, Ok, Err}
use Rattle.slices.specs.Bytes.{if}
use Rattle.document.specs.Kinds as kinds
use Rattle.document.specs.Tags.{Shown}
use Rattle.document.specs.Tokens.{Tag}
use Rattle.document.specs.Rows.{Row, Tables}
use Rattle.document.specs.Reading.{Definition, Frame, closed, with_row, dropped, judged, reason_of, noted, entered}
use Rattle.document.specs.Outcome.{Lent, lent, Lies, Bounded, Ready, Opening, Begins, runs, whole}
use Rattle.document.specs.declared.Refusal.{Refusal}
use Rattle.document.specs.declared.StartTag.{StartTag}
use Rattle.document.specs.declared.Fill.{Fill}
use Rattle.document.proofs.Openings.{opening_fault}
use Rattle.document.proofs.Readers.{keeping}
use Rattle.document.proofs.Loops.{name_inside}
use Rattle.rows.specs.Outcome.{WarningPut, WarningFits}
use Rattle.rows.proofs.Tables.{cut_to}
use Rattle.elements.specs.Outcome.{TypedKind, UntypedKind}
use Rattle.elements.proofs.Rows.{lies_ty, simple_type_kind, enum_kind, struct_kind, mapping_kind}
use Rattle.telepathy.specs.Outcome.{DefinitionKind, Told, Content, Judging, Judged, Rest, tagged, entering, no_parts}
use Rattle.telepathy.specs.declared.Parts.{Parts}
use Rattle.telepathy.specs.declared.Inner.{Inner}
use Rattle.telepathy.proofs.Sorts.{by_definition, carried, opening_end, opening_then}

-- ---- kept or dropped

judged_none : (d : Definition) (v : Tables Shown) → 0 ≡ reason_of d → judged d v ≡ v
judged_none d v e = go (reason_of d) e
  where
    go : (r : ℕ) → 0 ≡ r → if (eqb r 0) v (dropped r d v) ≡ v
    go r e = rw (← e)

judged_why : (d : Definition) (v : Tables Shown) (why : ℕ) → why ≡ reason_of d → (why ≡ 0 → ⊥) → judged d v ≡ dropped why d v
judged_why d v why e n = go (reason_of d) e
  where
    go : (r : ℕ) → why ≡ r → if (eqb r 0) v (dropped r d v) ≡ dropped why d v
    go r e = rw (← e, ne_eqb why 0 n)

-- where reading goes on after a dropped definition
abbrev pub back : Fill → Fill → Fill
back f h = record { at = h.at; rows = f.rows; warnings = h.warnings; text = f.text }

module _ {doc : List ℕ} {c : StartTag} {f h : Fill} (j : Judging doc c f h) where
  pub back_fits : WarningFits c.at c.len (back f h)
  back_fits = record {
    after = omega (arith, j.ready.few);
    place = omega (arith, j.ready.sound.small, j.ready.fits.inside, j.ready.fits.within);
    short = omega (arith, j.ready.sound.small, j.ready.fits.inside, j.ready.fits.within);
    few = omega (arith, j.bounds.few, j.bounds.inside, j.bounds.sound.small, j.owner);
  }

  pub judging_lies : Lies doc c.values.ty
  judging_lies = lies_ty j.ready

  module _ {p : Parts} {why : ℕ} (o : Told doc c p why) where
    pub judged_kept : {w : List ℕ} → why ≡ 0 → Judged doc c p f h w w h
    judged_kept {w} e = record {
      at = refl;
      since = j.since;
      grown = omega (arith, j.owner);
      bounds = j.bounds;
      stands = λ t u v b rows text z s y k.
          let q = judged_none (tagged c f.rows t p) v (sym e ∙ o.is t f.rows z) in
          (rw q y, rw q k);
    }

    pub judged_dropped : {w w' : List ℕ} {r : Fill} → (why ≡ 0 → ⊥) → WarningPut why c.at c.len (back f h) w w' r → Judged doc c p f h w w' r
    judged_dropped n q = record {
      at = q.at;
      since = omega (arith, q.at, j.since);
      grown = omega (arith, q.rows);
      bounds = record {
        sound = j.bounds.sound;
        inside = omega (arith, q.at, j.bounds.inside);
        few = omega (arith, q.at, q.rows, q.counts, j.bounds.few, j.owner);
        text = omega (arith, q.at, q.text, j.ready.text, j.ready.at, j.ready.fits.inside, j.since);
      };
      stands = λ t u v b rows text z s y k.
          let e = judged_why (tagged c f.rows t p) v why (o.is t f.rows z) n in (
            rw e (q.stands (record { rows = take f.rows v.rows; warnings = v.warnings }) rows text t.name t.at z.at z.named.len (cut_to s y k)),
            rw e (take-take f.rows f.rows v.rows (omega arith) ∙ k),
          );
    }

pub ruleset judgements = (back_fits, judging_lies, judged_kept, judged_dropped, rules)

-- ---- the row

module _ {k : ℕ} (d : DefinitionKind k) where
  pub row_typed : (k ≡ kinds.struct → ⊥) → (k ≡ kinds.mapping → ⊥) → TypedKind k
  row_typed n m = by_definition (λ q. (q ≡ kinds.struct → ⊥) → (q ≡ kinds.mapping → ⊥) → TypedKind q) (λ x y. simple_type_kind) (λ x y. enum_kind) (λ x y. absurd (x refl)) (λ x y. absurd (y refl)) d n m

  pub row_untyped : kinds.enum < k → UntypedKind k
  row_untyped l = by_definition (λ m. kinds.enum < m → UntypedKind m) (λ x. absurd (omega arith)) (λ x. absurd (omega arith)) (λ x. struct_kind) (λ x. mapping_kind) d l

pub ruleset definition_rows = (row_typed, row_untyped, rules)

-- ---- from the row on

module _ {doc : List ℕ} {c : StartTag} {f g : Fill} {b b' : Lent} {x : Result Inner Refusal} (l : Content doc c f.rows g b b' x) where
  pub rest_fault : {y : Refusal} → x ≡ Err y → Rest doc c f g b b' (Err y)
  rest_fault e = record {
    kind = l.kind;
    onward = tt;
    ends = λ t fs u v b₀ z s y k. (rw e at l).ends (tagged c f.rows t no_parts).reason t fs v z y;
  }

content_done : {doc : List ℕ} {c : StartTag} {i : ℕ} {g : Fill} {b b' : Lent} {x : Result Inner Refusal} {h : Fill} {p : Parts} → Content doc c i g b b' x → x ≡ Ok (record { fill = h; parts = p }) → Content doc c i g b b' (Ok (record { fill = h; parts = p }))
content_done l e = rw e at l

module _ {doc : List ℕ} {c : StartTag} {f g : Fill} {b : Lent} {rows w text : List ℕ} {x : Result Inner Refusal} (l : Content doc c f.rows g b (lent rows w text) x) {h : Fill} {p : Parts} (e : x ≡ Ok (record { fill = h; parts = p })) where
  pub rest_judging : Judging doc c f g → Judging doc c f h
  rest_judging j =
      let m = content_done l e in
      record { ready = j.ready; since = omega (arith, j.since, m.onward.0); owner = omega (arith, j.owner, m.onward.1); bounds = m.onward.3 }

  pub rest_done : {w' : List ℕ} {r : Fill} → Judged doc c p f h w w' r → Rest doc c f g b (lent rows w' text) (Ok r)
  rest_done {w'} {r} o = record {
    kind = l.kind;
    onward = (o.since, o.grown, o.bounds);
    ends = λ t fs u v b₀ z s y k.
        let i = (content_done l e).ends (tagged c f.rows t no_parts).reason t fs v z y in
        let m = o.stands t u i.0 b₀ rows text z s i.1 (i.3 ∙ k) in
        (judged (tagged c f.rows t p) i.0, m.0, i.2 ∙ ap (λ (n : ℕ). runs doc n (closed fs (judged (tagged c f.rows t p) i.0))) (sym o.at), m.1);
  }

pub judging_bounds : {doc : List ℕ} {c : StartTag} {f g : Fill} → Judging doc c f g → Bounded doc g
judging_bounds j = j.bounds

pub judging_owner : {doc : List ℕ} {c : StartTag} {f g : Fill} → Judging doc c f g → f.rows < g.rows
judging_owner j = j.owner

pub judging_named : {doc : List ℕ} {c : StartTag} {f g : Fill} → Judging doc c f g → c.at + c.len ≤ length doc
judging_named j = name_inside j.ready

pub ruleset rests = (judging_bounds, judging_owner, judging_named, rest_fault, rest_judging, rest_done, keeping, rules)

-- ---- all of a definition

module _ {doc : List ℕ} {c : StartTag} {f : Fill} {p : ℕ} {rows rows' bytes bytes' : List ℕ} {a : Result Fill Refusal} (o : Opening doc c.kind c p f rows rows' bytes bytes' a) {g : Fill} (e : a ≡ Ok g) where
  opened : Opening doc c.kind c p f rows rows' bytes bytes' (Ok g)
  opened = rw e at o

  pub row_judging : Ready doc c f → Judging doc c f g
  row_judging r = record { ready = r; since = omega (arith, opened.onward.0); owner = omega (arith, opened.onward.1); bounds = opened.onward.2 }

  pub definition_done : {w : List ℕ} {b : Lent} {r : Result Fill Refusal} → Rest doc c f g (lent rows' w bytes') b r → Begins doc c.kind c p f (lent rows w bytes) b r
  definition_done {w} {b} {r} l =
      opening_then o e l.onward
      (λ t fs u row z s y.
      let k = take_at u.rows (row ∷ []) f.rows s.many in
      carried doc f.rows (noted c.kind t fs) b r (inside t fs u row s.many) (sym k)
      (l.ends t (noted c.kind t fs) u (with_row row u) (lent rows w bytes) z s y k))
    where
      inside : (t : Tag) (fs : List Frame) (u : Tables Shown) (row : Row Shown) → length u.rows ≡ f.rows → runs doc c.end (entered whole doc c.kind t row fs u) ≡ runs doc g.at (entering t (tagged c f.rows t no_parts) (noted c.kind t fs) (with_row row u))
      inside t fs u row n = rw (opening_end o e, l.kind.is, by_definition (λ m. eqb m 1 ≡ false) refl refl refl refl l.kind, n)

pub ruleset all_definitions = (opening_fault, row_judging, definition_done, keeping, rules)
