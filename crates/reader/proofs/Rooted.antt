-- The walk through the open nodes, and the root.
use Prim.Native.Nat.{ℕ, suc, ◌+◌, ◌-◌, ◌≤◌, ◌<◌}
use mathlib.Core.Path.{◌≡◌, refl, sym, ◌∙◌, ap}
use mathlib.Core.List.{List, [], ◌∷◌}
use mathlib.Core.Bool.{true, false}
use borrow.Author.Rules.{rules}
use native.Mathlib.Numerals.{add-one}
use native.Mathlib.Omega.{arith}
use mir.Syntax.{w64}
use mir.Val.{Fits}
use lib.ListN.{length}
use Rattle.std.specs.Prelude.{Result, Ok, Err}
use Rattle.tables.proofs.Tables.{empty_stands}
use Rattle.document.specs.Kinds as kinds
use Rattle.document.specs.Tags.{Shown}
use Rattle.document.specs.Tokens.{Tag}
use Rattle.document.specs.Rows.{Row, Tables}
use Rattle.document.specs.Refusals.{bare}
use Rattle.document.specs.Reading.{Name, element, State, begun, reading, accepted, entered, begins, step}
use Rattle.document.specs.Outcome.{Lent, lent, name_at, Stands, Ready, Sound, TagIs, TagFits, Tokenises, Opening, runs, whole}
use Rattle.document.specs.declared.StartTag.{StartTag}
use Rattle.document.specs.declared.ClosingTag.{ClosingTag}
use Rattle.document.specs.declared.Refusal.{Refusal}
use Rattle.document.specs.declared.Fill.{Fill}
use Rattle.document.specs.declared.Token.{Token}
use Rattle.document.proofs.Readers.{keeping}
use Rattle.document.proofs.Runs.{run_more, run_last, run_refused, run_accepted}
use Rattle.document.proofs.Openings.{tag_named}
use Rattle.elements.proofs.Rows.{node_kind}
use Rattle.reader.specs.Nodes.{frames_of, Walking, Turns, Walks, Levels, RootOpen, EndsNodes, ReadsRoot, ReadsWhole}
use Rattle.reader.specs.declared.Walk.{Walk}
use Rattle.reader.specs.declared.Level.{Level}
use Rattle.std.specs.declared.ops.ControlFlow.{ControlFlow}
use Rattle.std.specs.declared.ops.ControlFlow.TheVariants.{Break, Continue}

-- a walk that began with s₀ came to s
pub record Sofar (doc : List ℕ) (root : Name) (opened₀ : List Level) (s₀ : Walk) (b₀ : Lent) (opened : List Level) (s : Walk) (b : Lent) : Type 0 where
  pub walks : Walking doc opened s
  pub leads :
      (v : Tables Shown) →
      Stands v b₀ s₀.fill →
      (u : Tables Shown)
      × Stands u b s.fill
      × (runs doc s₀.fill.at (reading (frames_of doc root opened₀ s₀.depth) v) ≡ runs doc s.fill.at (reading (frames_of doc root opened s.depth) u))

pub walk_begins : {doc : List ℕ} {root : Name} {opened : List Level} {s : Walk} {b : Lent} → Walking doc opened s → Sofar doc root opened s b opened s b
walk_begins g = record { walks = g; leads = λ v y. (v, y, refl) }

module _ {doc : List ℕ} {root : Name} {opened₀ opened opened' : List Level} {s₀ s : Walk} {b₀ b b' : Lent} (g : Sofar doc root opened₀ s₀ b₀ opened s b) {k : Result (ControlFlow Fill Walk) Refusal} (h : Turns doc root opened opened' s b b' k) where
  pub walk_fault : {x : Refusal} → k ≡ Err x → Walks doc root opened₀ s₀ b₀ b' (Err x)
  walk_fault e = record { leads = λ v y. let x = g.leads v y in x.2 ∙ (rw e at h).leads x.0 x.1 }

  pub walk_done : {f : Fill} → k ≡ Ok (Break f) → Walks doc root opened₀ s₀ b₀ b' (Ok f)
  walk_done e = record {
    leads = λ v y.
        let x = g.leads v y in
        let z = (rw e at h).leads x.0 x.1 in
        (z.0, z.1, x.2 ∙ z.2);
  }

  pub walk_on : {s' : Walk} → k ≡ Ok (Continue s') → Sofar doc root opened₀ s₀ b₀ opened' s' b'
  walk_on {s'} e =
      let t : Turns doc root opened opened' s b b' (Ok (Continue s')) = rw e at h in
      record {
        walks = t.onward.1;
        leads = λ v y.
            let x = g.leads v y in
            let z = t.leads x.0 x.1 in
            (z.0, z.1, x.2 ∙ z.2);
      }

  pub walk_less : {s' : Walk} → k ≡ Ok (Continue s') → length doc - s'.fill.at < length doc - s.fill.at
  walk_less {s'} e =
      let t : Turns doc root opened opened' s b b' (Ok (Continue s')) = rw e at h in
      omega (arith, t.onward.0, t.onward.1.bounds.inside)

pub ruleset walking = (walk_begins, walk_fault, walk_done, walk_on, walk_less, keeping, rules)

carried : {s s' : State Shown} (b : Lent) (r : Result Fill Refusal) → s ≡ s' → EndsNodes s' b r → EndsNodes s b r
carried b (Err x) h e = h ∙ e
carried b (Ok f) h e = (e.0, e.1, h ∙ e.2)

-- the root's row, in tables that are empty
pub root_ready : {doc : List ℕ} {c : StartTag} → Sound doc → TagFits doc c → 0 < c.at → Ready doc c (record { at = c.end; rows = 0; warnings = 0; text = 0 })
root_ready sound fits l = record { sound = sound; fits = fits; at = refl; few = omega arith; text = omega arith }

module _ {doc : List ℕ} {c : StartTag} {rows rows' text text' : List ℕ} {a : Result Fill Refusal} (o : Opening doc kinds.node c 0 (record { at = c.end; rows = 0; warnings = 0; text = 0 }) rows rows' text text' a) where
  pub root_fault : {w : List ℕ} {x : Refusal} → a ≡ Err x → ReadsRoot doc c (lent rows' w text') (Err x)
  unfolding begins
  root_fault {w} {x} e = record { ends = λ t z. rw ((rw e at o).is t z) (run_refused whole doc c.end x) }

  module _ {h : Fill} (e : a ≡ Ok h) where
    done : Opening doc kinds.node c 0 (record { at = c.end; rows = 0; warnings = 0; text = 0 }) rows rows' text text' (Ok h)
    done = rw e at o

    after : (t : Tag) (w : List ℕ) → TagIs doc c t → (row : Row Shown) × (begins whole doc kinds.node t [] (record { rows = []; warnings = [] }) ≡ entered whole doc kinds.node t row [] (record { rows = []; warnings = [] })) × Stands (record { rows = row ∷ []; warnings = [] }) (lent rows' w text') h
    unfolding begins
    after t w z =
        let j = done.is t z in
        let s : Stands (record { rows = []; warnings = [] }) (lent rows w text) (record { at = c.end; rows = 0; warnings = 0; text = 0 }) = record {
          rows = empty_stands 16 rows;
          many = refl;
          warnings = empty_stands 4 w;
          text = empty_stands 1 text;
        } in
        (j.0, rw j.1, j.2 (record { rows = []; warnings = [] }) w s)

    pub root_closes : {w : List ℕ} → c.closes ≡ true → ReadsRoot doc c (lent rows' w text') (Ok h)
    root_closes {w} x = record {
      ends = λ t z.
          let j = after t w z in
          (record { rows = j.0 ∷ []; warnings = [] }, j.2, ap (runs doc c.end) j.1 ∙ ended t z j.0);
    }
      where
        ended : (t : Tag) → TagIs doc c t → (row : Row Shown) → runs doc c.end (entered whole doc kinds.node t row [] (record { rows = []; warnings = [] })) ≡ accepted (record { rows = row ∷ []; warnings = [] })
        ended t z row = rw (sym z.closes ∙ x) (run_accepted whole doc c.end (record { rows = row ∷ []; warnings = [] }))

    pub root_open : TagFits doc c → c.closes ≡ false → RootOpen doc c h rows' text'
    root_open fits x = record {
      bounds = done.onward.2;
      one = done.onward.1;
      at = done.onward.0;
      named = omega (arith, fits.inside, fits.within);
      stands = λ t w z. let j = after t w z in (record { rows = j.0 ∷ []; warnings = [] }, j.2, j.1 ∙ inside t z j.0);
    }
      where
        inside : (t : Tag) → TagIs doc c t → (row : Row Shown) → entered whole doc kinds.node t row [] (record { rows = []; warnings = [] }) ≡ reading (element kinds.node (name_at doc c.at c.len) 0 ∷ []) (record { rows = row ∷ []; warnings = [] })
        inside t z row = rw (sym z.closes ∙ x, tag_named z)

-- the first of the open nodes
module _ {doc : List ℕ} {opened : List Level} {c : StartTag} {g : Fill} {rows text : List ℕ} (o : RootOpen doc c g rows text) (q : Levels opened) where
  pub levels_walk : Walking doc opened (record { depth = 1; fill = g })
  levels_walk = record {
    bounds = o.bounds;
    deep = omega arith;
    few = omega arith;
    long = q.long;
    named = λ j p b. absurd (omega arith);
    owners = λ j b. let i : j ≡ 0 = omega arith in rw (i, q.root) (omega (arith, o.one));
  }

  pub levels_named : c.at + c.len ≤ length doc
  levels_named = o.named

  pub levels_read : {w : List ℕ} {b : Lent} {r : Result Fill Refusal} → Walks doc (name_at doc c.at c.len) opened (record { depth = 1; fill = g }) (lent rows w text) b r → ReadsRoot doc c b r
  levels_read {w} {b} {r} k = record {
    ends = λ t z.
        let j = o.stands t w z in
        carried b r (ap (runs doc c.end) j.2 ∙ there j.0) (k.leads j.0 j.1);
  }
    where
      there : (v : Tables Shown) → runs doc c.end (reading (element kinds.node (name_at doc c.at c.len) 0 ∷ []) v) ≡ runs doc g.at (reading (frames_of doc (name_at doc c.at c.len) opened 1) v)
      there v = rw (o.at, q.root)

pub ruleset leveled = (levels_walk, levels_named, levels_read, keeping, rules)

pub ruleset rooted = (node_kind, root_ready, root_fault, root_closes, root_open, keeping, rules)

-- the first token
module _ {doc : List ℕ} {k : Result Token Refusal} (x : Tokenises doc 0 k) where
  pub first_fault : {b : Lent} {y : Refusal} → k ≡ Err y → ReadsWhole doc b (Err y)
  unfolding step
  first_fault {y = y} e =
      let t : Tokenises doc 0 (Err y) = rw e at x in
      rw t.is.3 record { ends = run_last whole doc 0 begun _ t.is.2 }

  pub first_end : {b : Lent} {p : ℕ} {y : Refusal} → k ≡ Ok (Token.End p) → y ≡ bare 3 p → ReadsWhole doc b (Err y)
  unfolding step
  first_end e q = rw q record { ends = run_last whole doc 0 begun _ (rw e at x).is }

  pub first_close : {b : Lent} {c : ClosingTag} {y : Refusal} → k ≡ Ok (Token.Close c) → y ≡ bare 4 (c.lt + 1) → ReadsWhole doc b (Err y)
  unfolding step
  first_close {c = c} e q =
      let t : Tokenises doc 0 (Ok (Token.Close c)) = rw e at x in
      rw q record {
        ends = run_more whole doc 0 begun _ c.end t.is (omega (arith, t.onward)) t.onward.3 ∙ rw add-one (run_refused whole doc c.end (bare 4 (suc c.lt)));
      }

  module _ {c : StartTag} (e : k ≡ Ok (Token.Start c)) where
    start : Tokenises doc 0 (Ok (Token.Start c))
    start = rw e at x

    pub first_further : 0 < c.at
    first_further = start.onward.0

    pub first_fits : TagFits doc c
    first_fits = start.onward.1

    pub first_root : {b : Lent} {r : Result Fill Refusal} → ReadsRoot doc c b r → ReadsWhole doc b r
    unfolding step
    first_root {b} {r} h = record {
      ends = carried b r (run_more whole doc 0 begun _ c.end start.is.2 (omega (arith, start.onward.1.inside)) start.onward.1.within) (h.ends start.is.0 start.is.1);
    }

pub first_wide : {doc : List ℕ} {k : Result Token Refusal} → Tokenises doc 0 k → Sound doc → {c : ClosingTag} → k ≡ Ok (Token.Close c) → Fits w64 (c.lt + 1)
first_wide {doc} x s {c} e = let t : Tokenises doc 0 (Ok (Token.Close c)) = rw e at x in omega (arith, t.onward, s.small)

pub ruleset firsts = (first_fault, first_end, first_close, first_further, first_fits, first_root, first_wide, keeping, rules)
