-- A node in a node: refused, closed by its own tag, too deep, or one more that is open.
use Prim.Native.Nat.{ℕ, suc, ◌+◌, ◌≤◌, ◌<◌, ◌^◌}
use mathlib.Core.Path.{◌≡◌, refl, sym, ◌∙◌, ap}
use mathlib.Core.List.{List}
use mathlib.Core.Bool.{Bool, true, false}
use borrow.Author.Rules.{rules}
use borrow.Author.Tests.{le-leb, lt-leb}
use native.Mathlib.Decide.{dec_lt}
use native.Mathlib.Numerals.{add-one}
use native.Mathlib.Omega.{arith}
use mir.Syntax.{w32}
use mir.Val.{Fits}
use lib.Dec.{leb}
use lib.ListN.{length, get_or, set, length-set}
use lib.Seq.{get_or-set_same, get_or-set_other}
use Rattle.std.specs.Prelude.{Result, Ok, Err}
use Rattle.slices.specs.Bytes.{if, bytes, same}
use Rattle.slices.proofs.Runs.{same_equal}
use Rattle.document.specs.Kinds as kinds
use Rattle.document.specs.Tags.{Shown}
use Rattle.document.specs.Tokens.{Tag}
use Rattle.document.specs.Rows.{Row, Tables}
use Rattle.document.specs.Elements.{kind_of, local_kind, local_name}
use Rattle.document.specs.Refusals.{bare}
use Rattle.document.specs.Reading.{Name, tag_name, reading, refused, parent_of, with_row, entered, begins}
use Rattle.document.specs.Outcome.{lent, name_at, Stands, Ready, TagIs, TagFits, Opening, runs, whole, moved}
use Rattle.document.specs.declared.StartTag.{StartTag}
use Rattle.document.specs.declared.Refusal.{Refusal}
use Rattle.document.specs.declared.Fill.{Fill}
use Rattle.document.proofs.Runs.{run_refused}
use Rattle.document.proofs.Loops.{moved_stands}
use Rattle.document.proofs.Openings.{tag_named}
use Rattle.elements.proofs.Rows.{node_kind}
use Rattle.reader.specs.Nodes.{frames_of, no_level, Walking, Opens, Started}
use Rattle.reader.specs.declared.Level.{Level}
use Rattle.reader.specs.declared.Walk.{Walk}
use Rattle.std.specs.declared.ops.ControlFlow.TheVariants.{Continue}
use Rattle.reader.proofs.Frames.{frames_length, frames_closed, frames_push}

not-one : (a b c d f g h : Bool) → ◌≡◌ {A = ℕ} (if a 8 (if b 9 (if c 10 (if d 11 (if f 12 (if g 13 (if h 14 0))))))) 1 → ⊥
not-one true b c d f g h e = omega arith
not-one false true c d f g h e = omega arith
not-one false false true d f g h e = omega arith
not-one false false false true f g h e = omega arith
not-one false false false false true g h e = omega arith
not-one false false false false false true h e = omega arith
not-one false false false false false false true e = omega arith
not-one false false false false false false false e = omega arith

local_not_one : (n : List ℕ) → local_kind n ≡ kinds.node → ⊥
local_not_one n e = not-one (same n (bytes "simple-type")) (same n (bytes "enum")) (same n (bytes "enumvalue")) (same n (bytes "struct")) (same n (bytes "member")) (same n (bytes "mapping")) (same n (bytes "docstring")) e

-- the name of kind 1 is `node`
pub node_name : (n : List ℕ) → kind_of n ≡ kinds.node → n ≡ bytes "node"
unfolding kind_of
node_name n e =
    go (same n (bytes "node")) (same n (bytes "interface")) (same n (bytes "method")) (same n (bytes "property")) (same n (bytes "signal")) (same n (bytes "annotation")) (same n (bytes "arg")) refl e
  where
    go : (a b c d f g h : Bool) → same n (bytes "node") ≡ a → if a 1 (if b 2 (if c 3 (if d 4 (if f 5 (if g 6 (if h 7 (local_kind (local_name n)))))))) ≡ 1 → n ≡ bytes "node"
    go true b c d f g h q e = same_equal n (bytes "node") q
    go false true c d f g h q e = absurd (omega arith)
    go false false true d f g h q e = absurd (omega arith)
    go false false false true f g h q e = absurd (omega arith)
    go false false false false true g h q e = absurd (omega arith)
    go false false false false false true h q e = absurd (omega arith)
    go false false false false false false true q e = absurd (omega arith)
    go false false false false false false false q e = absurd (local_not_one (local_name n) e)

module _ {doc : List ℕ} {opened : List Level} {c : StartTag} {s : Walk} (begun : Started doc opened c s) where
  g : Walking doc opened s
  g = begun.walks

  l : s.fill.at < c.at
  l = begun.further

  fits : TagFits doc c
  fits = begun.fits

  pub node_ready : Ready doc c (moved s.fill c.end)
  node_ready = record {
    sound = g.bounds.sound;
    fits = fits;
    at = refl;
    few = omega (arith, g.bounds.few);
    text = omega (arith, g.bounds.text);
  }

  pub row_small : Fits w32 s.fill.rows
  row_small = omega (arith, g.bounds.few, g.bounds.inside, g.bounds.sound.small)

  pub parent_small : (i : ℕ) → i < s.fill.rows → i + 1 ≤ 1048576
  parent_small i h = omega (arith, g.bounds.few, g.bounds.inside, g.bounds.sound.small)

  pub level_inside : (s.depth ≡ 1024 → ⊥) → s.depth < length opened
  level_inside n = omega (arith, g.few, g.long)

  pub row_below : s.fill.rows < 2 ^ 32
  row_below = omega (arith, g.bounds.few, g.bounds.inside, g.bounds.sound.small)

  pub name_below : c.at < 2 ^ 32
  name_below = omega (arith, g.bounds.sound.small, fits.inside, fits.within)

  -- one more level, and the levels with it
  abbrev level : Level
  level = record { row = s.fill.rows; name = c.at }

  abbrev levels : List Level
  levels = set opened s.depth level

  module _ (i : ℕ) {rows rows' text text' : List ℕ} {a : Result Fill Refusal} (o : Opening doc kinds.node c (i + 1) (moved s.fill c.end) rows rows' text text' a) where
    pub open_fault : {q : Refusal} → a ≡ Err q → Opens doc c i s opened opened rows rows' text text' (Err q)
    unfolding begins
    open_fault {q} e = record {
      onward = tt;
      leads = λ root t v w z h x. rw (h, ← add-one i, (rw e at o).is t z) (run_refused whole doc c.end q);
    }

    module _ {h : Fill} (e : a ≡ Ok h) where
      done : Opening doc kinds.node c (i + 1) (moved s.fill c.end) rows rows' text text' (Ok h)
      done = rw e at o

      at-end : h.at ≡ c.end
      at-end = done.onward.0

      -- the state after the row
      after : (root : Name) (t : Tag) (v : Tables Shown) (w : List ℕ) → TagIs doc c t → parent_of (frames_of doc root opened s.depth) ≡ suc i → Stands v (lent rows w text) s.fill → (row : Row Shown) × (begins whole doc kinds.node t (frames_of doc root opened s.depth) v ≡ entered whole doc kinds.node t row (frames_of doc root opened s.depth) v) × Stands (with_row row v) (lent rows' w text') h
      unfolding begins
      after root t v w z k x =
          let j = done.is t z in
          (j.0, rw (k, ← add-one i, j.1), j.2 v w (moved_stands c.end x))

      -- the walk goes on with the row counted
      grown : (j : ℕ) → j < s.fill.rows → j < h.rows
      grown j b = omega (arith, done.onward.1)

      shut_at : (root : Name) (t : Tag) (v : Tables Shown) → TagIs doc c t → c.closes ≡ true → (row : Row Shown) → runs doc c.end (entered whole doc kinds.node t row (frames_of doc root opened s.depth) v) ≡ runs doc h.at (reading (frames_of doc root opened s.depth) (with_row row v))
      shut_at root t v z x row = rw (at-end, sym z.closes ∙ x, frames_closed doc root opened s.depth (with_row row v) g.deep)

      pub open_closes : c.closes ≡ true → Opens doc c i s opened opened rows rows' text text' (Ok (Continue (record { depth = s.depth; fill = h })))
      open_closes x = record {
        onward = (
          omega (arith, at-end, l, fits.inside),
          record {
            bounds = done.onward.2;
            deep = g.deep;
            few = g.few;
            long = g.long;
            named = g.named;
            owners = λ j b. grown (get_or opened j no_level).row (g.owners j b);
          },
        );
        leads = λ root t v w z k y.
            let j = after root t v w z k y in
            (with_row j.0 v, j.2, ap (runs doc c.end) j.1 ∙ shut_at root t v z x j.0);
      }

      module _ (x : c.closes ≡ false) where
        deep_at : (root : Name) (t : Tag) (v : Tables Shown) → TagIs doc c t → s.depth ≡ 1024 → (row : Row Shown) → runs doc c.end (entered whole doc kinds.node t row (frames_of doc root opened s.depth) v) ≡ refused (bare 7 c.end)
        deep_at root t v z n row =
            let b : leb 1024 (length (frames_of doc root opened s.depth)) ≡ true = le-leb 1024 (length (frames_of doc root opened s.depth)) (omega (arith, frames_length doc root opened s.depth)) in
            rw (sym z.closes ∙ x, b) (run_refused whole doc c.end (bare 7 t.after)) ∙ ap (λ q. refused (bare 7 q)) (sym z.end)

        pub open_deep : {q : Refusal} → s.depth ≡ 1024 → q ≡ bare 7 c.end → Opens doc c i s opened opened rows rows' text text' (Err q)
        open_deep n b = rw b record {
          onward = tt;
          leads = λ root t v w z k y.
              let j = after root t v w z k y in
              ap (runs doc c.end) j.1 ∙ deep_at root t v z n j.0;
        }

        module _ (n : s.depth ≡ 1024 → ⊥) where
          more_at : (root : Name) (t : Tag) (v : Tables Shown) → TagIs doc c t → c.kind ≡ kinds.node → length v.rows ≡ s.fill.rows → (row : Row Shown) → runs doc c.end (entered whole doc kinds.node t row (frames_of doc root opened s.depth) v) ≡ runs doc h.at (reading (frames_of doc root levels (s.depth + 1)) (with_row row v))
          more_at root t v z k m row =
              let b : leb 1024 (length (frames_of doc root opened s.depth)) ≡ false = lt-leb 1024 (length (frames_of doc root opened s.depth)) (omega (arith, frames_length doc root opened s.depth, g.few)) in
              let q : tag_name t ≡ name_at doc c.at 4 = tag_named z ∙ ap (name_at doc c.at) (begun.four k) in
              rw (at-end, sym z.closes ∙ x, b, frames_push doc root opened s.depth level g.deep (level_inside n), m, q)

          pub open_more : {opened' : List Level} → c.kind ≡ kinds.node → opened' ≡ set opened s.depth (record { row = s.fill.rows; name = c.at }) → Opens doc c i s opened opened' rows rows' text text' (Ok (Continue (record { depth = s.depth + 1; fill = h })))
          open_more k q = rw q record {
            onward = (
              omega (arith, at-end, l, fits.inside),
              record {
                bounds = done.onward.2;
                deep = omega arith;
                few = omega (arith, g.few);
                long = length-set opened s.depth level ∙ g.long;
                named = λ j p b. named j p b (dec_lt j s.depth);
                owners = λ j b. owner j b (dec_lt j s.depth);
              },
            );
            leads = λ root t v w z p y.
                let j = after root t v w z p y in
                (with_row j.0 v, j.2, ap (runs doc c.end) j.1 ∙ more_at root t v z k y.many j.0);
          }
            where
              owner : (j : ℕ) → j < s.depth + 1 → Dec (j < s.depth) → (get_or levels j no_level).row < h.rows
              owner j b (yes y) = rw (get_or-set_other opened s.depth j level no_level (λ e. omega arith)) (grown (get_or opened j no_level).row (g.owners j y))
              owner j b (no y) = let q : j ≡ s.depth = omega arith in rw (q, get_or-set_same opened s.depth level no_level (level_inside n)) (omega (arith, done.onward.1))

              named : (j : ℕ) → 0 < j → j < s.depth + 1 → Dec (j < s.depth) → (get_or levels j no_level).name + 4 ≤ length doc
              named j p b (yes y) = rw (get_or-set_other opened s.depth j level no_level (λ e. omega arith)) (g.named j p y)
              named j p b (no y) =
                  let q : j ≡ s.depth = omega arith in
                  rw (q, get_or-set_same opened s.depth level no_level (level_inside n)) (omega (arith, fits.inside, fits.within, begun.four k))

pub ruleset node_opens = (node_kind, node_ready, row_small, parent_small, level_inside, row_below, name_below, open_fault, open_closes, open_deep, open_more, rules)
