-- A turn of the node loop: what each way of it says.
use Prim.Native.Nat.{ℕ, suc, ◌+◌, ◌-◌, ◌≤◌, ◌<◌}
use mathlib.Core.Path.{◌≡◌, refl, sym, ◌∙◌, ap}
use mathlib.Core.List.{List, [], ◌∷◌}
use mathlib.Core.Bool.{true}
use borrow.Author.Rules.{rules}
use borrow.Author.Tests.{eq-eqb, ne_eqb}
use native.Mathlib.Omega.{arith}
use lib.ListN.{length, take, get_or}
use Rattle.std.specs.Prelude.{Result, Ok, Err}
use Rattle.document.specs.Kinds as kinds
use Rattle.document.specs.Tags.{Shown}
use Rattle.document.specs.Tokens.{Tag}
use Rattle.document.specs.Rows.{Tables}
use Rattle.document.specs.Elements.{kind_of, may_hold}
use Rattle.document.specs.Reading.{Name, element, State, reading, accepted, closed, child, begins}
use Rattle.document.specs.Outcome.{Lent, lent, name_at, Stands, Bounded, Ready, TagIs, TagFits, Steps, Child, Ends, runs, whole, moved}
use Rattle.document.specs.declared.StartTag.{StartTag}
use Rattle.document.specs.declared.Refusal.{Refusal}
use Rattle.document.specs.declared.Fill.{Fill}
use Rattle.document.specs.declared.Next.{Next}
use Rattle.document.specs.declared.Closing.{Closing}
use Rattle.document.proofs.Readers.{keeping}
use Rattle.document.proofs.Runs.{run_accepted}
use Rattle.document.proofs.Loops.{moved_stands, moved_owner}
use Rattle.reader.specs.Nodes.{frames_of, no_level, Walking, Turns, LeadsFrom, Opens, Started, Begun, Looks, NextIn, name_in, Shuts, IsShut, ChildIn, IsChildIn}
use Rattle.reader.specs.declared.Walk.{Walk}
use Rattle.reader.specs.declared.Level.{Level}
use Rattle.std.specs.declared.ops.ControlFlow.{ControlFlow}
use Rattle.std.specs.declared.ops.ControlFlow.TheVariants.{Break, Continue}
use Rattle.reader.proofs.Frames.{frames_top, frames_parent, frames_closed}
use Rattle.reader.proofs.Opened.{node_name}

-- the name of the innermost open node
pub next_root : {doc : List ℕ} {at len inner : ℕ} {s : Walk} {r : Result Next Refusal} → s.depth ≡ 1 → Steps doc s.fill.at at len r → NextIn doc (name_at doc at len) inner s r
next_root {s = s} d x = record { onward = x.onward; leads = λ f fs u e. x.leads f fs u (e ∙ rw (eq-eqb s.depth 1 d)) }

pub next_nested : {doc : List ℕ} {root : Name} {inner : ℕ} {s : Walk} {r : Result Next Refusal} → (s.depth ≡ 1 → ⊥) → Steps doc s.fill.at inner 4 r → NextIn doc root inner s r
next_nested {s = s} d x = record { onward = x.onward; leads = λ f fs u e. x.leads f fs u (e ∙ rw (ne_eqb s.depth 1 d)) }

pub inner_inside : {doc : List ℕ} {at len inner : ℕ} {s : Walk} → Looks doc at len inner s → (s.depth ≡ 1 → ⊥) → inner + 4 ≤ length doc
inner_inside p d = p.nested (omega (arith, p.deep))

module _ {doc : List ℕ} {opened : List Level} {s : Walk} (g : Walking doc opened s) where
  pub looks : (at len inner : ℕ) → at + len ≤ length doc → inner ≡ (get_or opened (s.depth - 1) no_level).name → Looks doc at len inner s
  looks at len inner h e = record {
    deep = g.deep;
    from = g.bounds.inside;
    root = h;
    nested = λ d. rw e (g.named (s.depth - 1) (omega arith) (omega arith));
    small = g.bounds.sound.small;
  }

  pub last_level : 1 ≤ s.depth
  last_level = omega (arith, g.deep)

  pub level_inside : s.depth - 1 < length opened
  level_inside = omega (arith, g.few, g.deep, g.long)

pub ruleset nexts = (next_root, next_nested, inner_inside, rules)

-- a child that is no node
module _ {doc : List ℕ} {c : StartTag} {i : ℕ} {s : Walk} {b b' : Lent} {a : Result Fill Refusal} {m : Fill} (h : Child doc kinds.in_node true c i m b b' a) (y : m ≡ moved s.fill c.end) where
  pub child_fault : {x : Refusal} → a ≡ Err x → ChildIn doc c i s b b' (Err x)
  child_fault e = record { is = rw (y, e) at h }

  pub child_on : {g : Fill} → a ≡ Ok g → ChildIn doc c i s b b' (Ok (Continue (record { depth = s.depth; fill = g })))
  child_on e = record { is = (rw (y, e) at h, refl) }

-- the closing tag of a node
module _ {s : Walk} {end : ℕ} {m : Fill} (y : m ≡ moved s.fill end) where
  pub shut_root : s.depth ≡ 1 → Shuts s end (Break m)
  shut_root e = record { is = (e, y) }

  pub shut_inner : (s.depth ≡ 1 → ⊥) → Shuts s end (Continue (record { depth = s.depth - 1; fill = m }))
  shut_inner n = record { is = (n, rw y) }

pub ruleset shutting = (shut_root, shut_inner, rules)

pub child_ready : {doc : List ℕ} {c : StartTag} {f m : Fill} → Ready doc c f → m ≡ f → Ready doc c m
child_ready r y = rw y r

pub ruleset child_ins = (child_fault, child_on, child_ready, moved_owner, keeping, rules)

prefixed : (doc : List ℕ) (root : Name) (opened : List Level) (b : Lent) {x x' : State Shown} (k : Result (ControlFlow Fill Walk) Refusal) → x ≡ x' → LeadsFrom doc root opened x' b k → LeadsFrom doc root opened x b k
prefixed doc root opened b (Err y) h l = h ∙ l
prefixed doc root opened b (Ok (Break f)) h l = (l.0, l.1, h ∙ l.2)
prefixed doc root opened b (Ok (Continue s')) h l = (l.0, l.1, h ∙ l.2)

module _ {doc : List ℕ} {root : Name} {opened : List Level} {inner : ℕ} {s : Walk} (g : Walking doc opened s) {r : Result Next Refusal} (x : NextIn doc root inner s r) (p : inner ≡ (get_or opened (s.depth - 1) no_level).name) where
  frames : frames_of doc root opened s.depth ≡ element kinds.node (name_in doc root inner s) (get_or opened (s.depth - 1) no_level).row ∷ frames_of doc root opened (s.depth - 1)
  frames = rw p (frames_top doc root opened s.depth g.deep)

  pub turn_fault : {q : Refusal} {b : Lent} → r ≡ Err q → Turns doc root opened opened s b b (Err q)
  turn_fault {q} e = record {
    onward = tt;
    leads = λ v y.
        let z : NextIn doc root inner s (Err q) = rw e at x in
        rw frames (z.leads (element kinds.node (name_in doc root inner s) (get_or opened (s.depth - 1) no_level).row) (frames_of doc root opened (s.depth - 1)) v refl);
  }

  -- the closing tag
  pub turn_close : {y : Closing} {k : ControlFlow Fill Walk} {b : Lent} → r ≡ Ok (Next.Close y) → Shuts s y.end k → Turns doc root opened opened s b b (Ok k)
  turn_close {y} {k} {b} e h = go k h.is
    where
      z : NextIn doc root inner s (Ok (Next.Close y))
      z = rw e at x

      bounded : Bounded doc (moved s.fill y.end)
      bounded = record {
        sound = g.bounds.sound;
        inside = z.onward.2;
        few = omega (arith, g.bounds.few, z.onward);
        text = omega (arith, g.bounds.text, z.onward);
      }

      shuts : (v : Tables Shown) → runs doc s.fill.at (reading (frames_of doc root opened s.depth) v) ≡ runs doc y.end (closed (frames_of doc root opened (s.depth - 1)) v)
      shuts v = rw frames (z.leads (element kinds.node (name_in doc root inner s) (get_or opened (s.depth - 1) no_level).row) (frames_of doc root opened (s.depth - 1)) v refl)

      last : (v : Tables Shown) → s.depth ≡ 1 → runs doc y.end (closed (frames_of doc root opened (s.depth - 1)) v) ≡ accepted v
      last v e = rw e (run_accepted whole doc y.end v)

      nested : (s.depth ≡ 1 → ⊥) → 0 < s.depth - 1
      nested n = omega (arith, g.deep)

      walks : (s.depth ≡ 1 → ⊥) → Walking doc opened (record { depth = s.depth - 1; fill = moved s.fill y.end })
      walks n = record {
        bounds = bounded;
        deep = nested n;
        few = omega (arith, g.few);
        long = g.long;
        named = λ j b l. g.named j b (omega arith);
        owners = λ j l. g.owners j (omega arith);
      }

      go : (k : ControlFlow Fill Walk) → IsShut s y.end k → Turns doc root opened opened s b b (Ok k)
      go (Break f) h = record {
        onward = rw h.1 bounded;
        leads = λ v w. (v, rw h.1 (moved_stands y.end w), shuts v ∙ last v h.0);
      }
      go (Continue s') h = record {
        onward = rw h.1 (omega (arith, z.onward), walks h.0);
        leads = λ v w. rw h.1 (v, moved_stands y.end w, shuts v ∙ ap (runs doc y.end) (frames_closed doc root opened (s.depth - 1) v (nested h.0)));
      }

  -- a start tag
  module _ {c : StartTag} (e : r ≡ Ok (Next.Start c)) where
    start : NextIn doc root inner s (Ok (Next.Start c))
    start = rw e at x

    turn_further : s.fill.at < c.at
    turn_further = start.onward.0

    turn-fits : TagFits doc c
    turn-fits = start.onward.1

    pub turn_started : Started doc opened c s
    turn_started =
        let z = start.leads (element kinds.node (name_in doc root inner s) 0) [] (record { rows = []; warnings = [] }) refl in
        record {
          walks = g;
          further = turn_further;
          fits = turn-fits;
          four = λ k. sym z.1.named.len ∙ ap length (node_name z.0.name (sym z.1.kind ∙ k));
        }

    pub turn_begun : {opened' : List Level} {b b' : Lent} {k : Result (ControlFlow Fill Walk) Refusal} → Begun doc c s opened opened' b b' k → Turns doc root opened opened' s b b' k
    turn_begun {opened'} {b} {b'} {k} h = record {
      onward = h.onward;
      leads = λ v y.
          let z = start.leads (element kinds.node (name_in doc root inner s) (get_or opened (s.depth - 1) no_level).row) (frames_of doc root opened (s.depth - 1)) v refl in
          prefixed doc root opened' b' k (rw frames z.2) (h.leads root z.0 v z.1 y);
    }

pub ruleset turns = (looks, last_level, level_inside, turn_fault, turn_close, turn_started, turn_begun, keeping, rules)

-- the element of a start tag
module _ {doc : List ℕ} {opened : List Level} {c : StartTag} {s : Walk} (begun : Started doc opened c s) where
  walks : Walking doc opened s
  walks = begun.walks

  pub begun_ready : Ready doc c (moved s.fill c.end)
  begun_ready = record {
    sound = walks.bounds.sound;
    fits = begun.fits;
    at = refl;
    few = omega (arith, walks.bounds.few, begun.further);
    text = omega (arith, walks.bounds.text, begun.further);
  }

  pub begun_level : s.depth - 1 < length opened
  begun_level = omega (arith, walks.deep, walks.few, walks.long)

  pub begun_owner : (i : ℕ) → i ≡ (get_or opened (s.depth - 1) no_level).row → i < s.fill.rows
  begun_owner i e = rw e (walks.owners (s.depth - 1) (omega (arith, walks.deep)))

  pub begun_deep : 0 < s.depth
  begun_deep = walks.deep

  pub begun_open : {i : ℕ} {opened' : List Level} {rows rows' w text text' : List ℕ} {k : Result (ControlFlow Fill Walk) Refusal} → c.kind ≡ kinds.node → i ≡ (get_or opened (s.depth - 1) no_level).row → Opens doc c i s opened opened' rows rows' text text' k → Begun doc c s opened opened' (lent rows w text) (lent rows' w text') k
  unfolding may_hold
  begun_open {i} {opened'} {rows} {rows'} {w} {text} {text'} {k} n q o = record {
    onward = o.onward;
    leads = λ root t v z y.
        prefixed doc root opened' (lent rows' w text') k (one root t v (sym z.kind ∙ n))
        (o.leads root t v w z (frames_parent doc root opened s.depth walks.deep ∙ ap suc (sym q)) y);
  }
    where
      one : (root : Name) (t : Tag) (v : Tables Shown) → kind_of t.name ≡ kinds.node → runs doc c.end (child whole doc kinds.node (get_or opened (s.depth - 1) no_level).row t (frames_of doc root opened s.depth) v) ≡ runs doc c.end (begins whole doc kinds.node t (frames_of doc root opened s.depth) v)
      one root t v j = rw j

  pub begun_child : {i : ℕ} {b b' : Lent} {k : Result (ControlFlow Fill Walk) Refusal} → i ≡ (get_or opened (s.depth - 1) no_level).row → ChildIn doc c i s b b' k → Begun doc c s opened opened b b' k
  begun_child {i} {b} {b'} {k} q h = go k h.is
    where
      frames : (root : Name) → frames_of doc root opened s.depth ≡ element kinds.node (name_in doc root (get_or opened (s.depth - 1) no_level).name s) (get_or opened (s.depth - 1) no_level).row ∷ frames_of doc root opened (s.depth - 1)
      frames root = frames_top doc root opened s.depth walks.deep

      ends : (root : Name) {a : Result Fill Refusal} → Child doc kinds.in_node true c i (moved s.fill c.end) b b' a → (v : Tables Shown) (t : Tag) → TagIs doc c t → Stands v b s.fill → Ends doc (runs doc c.end (child whole doc kinds.node (get_or opened (s.depth - 1) no_level).row t (frames_of doc root opened s.depth) v)) (frames_of doc root opened s.depth) i (take i v.rows) b' a
      ends root m v t z y = rw (← q, frames root) (rw (← q) (m.ends 1 (name_in doc root (get_or opened (s.depth - 1) no_level).name s) t (frames_of doc root opened (s.depth - 1)) v refl refl z (moved_stands c.end y)))

      grown : (x n : ℕ) → s.fill.rows ≤ n → x < s.fill.rows → x < n
      grown x n h l = omega arith

      again : (root : Name) (n at : ℕ) (u : Tables Shown) → n ≡ s.depth → runs doc at (closed (frames_of doc root opened s.depth) u) ≡ runs doc at (reading (frames_of doc root opened n) u)
      again root n at u e = rw (e, frames_closed doc root opened s.depth u walks.deep)

      go : (k : Result (ControlFlow Fill Walk) Refusal) → IsChildIn doc c i s b b' k → Begun doc c s opened opened b b' k
      go (Err x) m = record { onward = tt; leads = λ root t v z y. ends root m v t z y }
      go (Ok (Break f)) m = absurd m
      go (Ok (Continue s')) m =
          let d' : s'.depth ≡ s.depth = ap (λ (x : Walk). x.depth) m.1 in
          record {
            onward = (
              omega (arith, begun.further, begun.fits.inside, m.0.onward.0),
              record {
                bounds = m.0.onward.2;
                deep = omega (arith, d', walks.deep);
                few = omega (arith, d', walks.few);
                long = walks.long;
                named = λ j p b. walks.named j p (omega (arith, d'));
                owners = λ j b. grown (get_or opened j no_level).row s'.fill.rows m.0.onward.1 (walks.owners j (omega (arith, d')));
              },
            );
            leads = λ root t v z y.
                let o = ends root m.0 v t z y in
                (o.0, o.1, o.2 ∙ again root s'.depth s'.fill.at o.0 d');
          }

pub ruleset starteds = (begun_ready, begun_level, begun_owner, begun_deep, begun_open, begun_child, keeping, rules)
