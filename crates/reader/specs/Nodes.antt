-- The node loop: which nodes are open, and what a turn of the loop says.
use Rattle.std.specs.Prelude.{ℕ, zero, suc, ◌+◌, ◌-◌, ◌≤◌, ◌<◌, ◌≡◌, List, [], ◌∷◌, true, eqb, length, get_or, Result, Ok, Err}
use Rattle.slices.specs.Bytes.{if}
use Rattle.document.specs.Kinds as kinds
use Rattle.document.specs.Tags.{Shown}
use Rattle.document.specs.Tokens.{Tag}
use Rattle.document.specs.Rows.{Tables}
use Rattle.document.specs.Reading.{Name, Frame, element, State, begun, reading, accepted, refused, name_of, parent_of, child, begins}
use Rattle.document.specs.Outcome.{Lent, lent, name_at, Stands, Bounded, TagIs, TagFits, OnwardNext, Leads, Child, moved, runs, whole}
use Rattle.document.specs.declared.StartTag.{StartTag}
use Rattle.document.specs.declared.Fill.{Fill}
use Rattle.document.specs.declared.Next.{Next}
use Rattle.document.specs.declared.Refusal.{Refusal}
use Rattle.reader.specs.declared.Walk.{Walk}
use Rattle.reader.specs.declared.Level.{Level}
use Rattle.std.specs.declared.ops.ControlFlow.{ControlFlow}
use Rattle.std.specs.declared.ops.ControlFlow.TheVariants.{Break, Continue}

abbrev pub no_level : Level
no_level = record { row = 0; name = 0 }

-- the frames of the open nodes, the innermost first; the levels have the root first, and each name but the root's is `node`
abbrev pub frames_of : List ℕ → Name → List Level → ℕ → List Frame
frames_of doc root opened zero = []
frames_of doc root opened (suc zero) = element kinds.node root (get_or opened 0 no_level).row ∷ []
frames_of doc root opened (suc (suc d)) =
    element kinds.node (name_at doc (get_or opened (suc d) no_level).name 4) (get_or opened (suc d) no_level).row ∷ frames_of doc root opened (suc d)

-- a walk through the open nodes is within bounds
pub record Walking (doc : List ℕ) (opened : List Level) (s : Walk) : Type 0 where
  pub bounds : Bounded doc s.fill
  pub deep : 0 < s.depth
  pub few : s.depth ≤ 1024
  pub long : length opened ≡ 1024
  pub named : (j : ℕ) → 0 < j → j < s.depth → (get_or opened j no_level).name + 4 ≤ length doc
  pub owners : (j : ℕ) → j < s.depth → (get_or opened j no_level).row < s.fill.rows

abbrev pub OnwardTurn : List ℕ → List Level → Walk → Result (ControlFlow Fill Walk) Refusal → Type 0
OnwardTurn doc opened s (Err x) = Unit {0}
OnwardTurn doc opened s (Ok (Break g)) = Bounded doc g
OnwardTurn doc opened s (Ok (Continue s')) = (s.fill.at < s'.fill.at) × Walking doc opened s'

-- where a run in the open nodes comes to
abbrev pub LeadsFrom : List ℕ → Name → List Level → State Shown → Lent → Result (ControlFlow Fill Walk) Refusal → Type 0
LeadsFrom doc root opened x b (Err y) = x ≡ refused y
LeadsFrom doc root opened x b (Ok (Break g)) = (u : Tables Shown) × Stands u b g × (x ≡ accepted u)
LeadsFrom doc root opened x b (Ok (Continue s)) = (u : Tables Shown) × Stands u b s.fill × (x ≡ runs doc s.fill.at (reading (frames_of doc root opened s.depth) u))

-- what one token more says
pub record Turns (doc : List ℕ) (root : Name) (opened opened' : List Level) (s : Walk) (b b' : Lent) (r : Result (ControlFlow Fill Walk) Refusal) : Type 0 where
  pub onward : OnwardTurn doc opened' s r
  pub leads : (v : Tables Shown) → Stands v b s.fill → LeadsFrom doc root opened' (runs doc s.fill.at (reading (frames_of doc root opened s.depth) v)) b' r

-- what a node in a node says, where row i is the innermost open node's
pub record Opens (doc : List ℕ) (c : StartTag) (i : ℕ) (s : Walk) (opened opened' : List Level) (rows rows' text text' : List ℕ) (r : Result (ControlFlow Fill Walk) Refusal) : Type 0 where
  pub onward : OnwardTurn doc opened' s r
  pub leads :
      (root : Name) (t : Tag) (v : Tables Shown) (w : List ℕ) →
      TagIs doc c t →
      parent_of (frames_of doc root opened s.depth) ≡ suc i →
      Stands v (lent rows w text) s.fill →
      LeadsFrom doc root opened' (runs doc c.end (begins whole doc kinds.node t (frames_of doc root opened s.depth) v)) (lent rows' w text') r

-- the name of the innermost open node: the root's, or `node` at a place
abbrev pub name_in : List ℕ → Name → ℕ → Walk → Name
name_in doc root inner s = if (eqb s.depth 1) root (name_at doc inner 4)

-- the places that looking for the next token needs
pub record Looks (doc : List ℕ) (at len inner : ℕ) (s : Walk) : Type 0 where
  pub deep : 0 < s.depth
  pub from : s.fill.at ≤ length doc
  pub root : at + len ≤ length doc
  pub nested : 1 < s.depth → inner + 4 ≤ length doc
  pub small : length doc ≤ 1048576

-- what comes next in the innermost open node
pub record NextIn (doc : List ℕ) (root : Name) (inner : ℕ) (s : Walk) (r : Result Next Refusal) : Type 0 where
  pub onward : OnwardNext doc s.fill.at r
  pub leads : (f : Frame) (fs : List Frame) (u : Tables Shown) → name_of f ≡ name_in doc root inner s → Leads doc s.fill.at f fs u r

-- what closing the innermost open node says: the root's end, or one level less
abbrev pub IsShut : Walk → ℕ → ControlFlow Fill Walk → Type 0
IsShut s end (Break g) = (s.depth ≡ 1) × (g ≡ moved s.fill end)
IsShut s end (Continue s') = (s.depth ≡ 1 → ⊥) × (s' ≡ record { depth = s.depth - 1; fill = moved s.fill end })

pub record Shuts (s : Walk) (end : ℕ) (r : ControlFlow Fill Walk) : Type 0 where
  pub is : IsShut s end r

-- what a child that is no node says, where row i is the innermost open node's
abbrev pub IsChildIn : List ℕ → StartTag → ℕ → Walk → Lent → Lent → Result (ControlFlow Fill Walk) Refusal → Type 0
IsChildIn doc c i s b b' (Err x) = Child doc kinds.in_node true c i (moved s.fill c.end) b b' (Err x)
IsChildIn doc c i s b b' (Ok (Break g)) = ⊥
IsChildIn doc c i s b b' (Ok (Continue s')) =
    Child doc kinds.in_node true c i (moved s.fill c.end) b b' (Ok s'.fill)
    × (s' ≡ record { depth = s.depth; fill = s'.fill })

pub record ChildIn (doc : List ℕ) (c : StartTag) (i : ℕ) (s : Walk) (b b' : Lent) (r : Result (ControlFlow Fill Walk) Refusal) : Type 0 where
  pub is : IsChildIn doc c i s b b' r

-- a start tag in the innermost open node
pub record Started (doc : List ℕ) (opened : List Level) (c : StartTag) (s : Walk) : Type 0 where
  pub walks : Walking doc opened s
  pub further : s.fill.at < c.at
  pub fits : TagFits doc c
  pub four : c.kind ≡ kinds.node → c.len ≡ 4

-- what the element of that tag says
pub record Begun (doc : List ℕ) (c : StartTag) (s : Walk) (opened opened' : List Level) (b b' : Lent) (r : Result (ControlFlow Fill Walk) Refusal) : Type 0 where
  pub onward : OnwardTurn doc opened' s r
  pub leads :
      (root : Name) (t : Tag) (v : Tables Shown) →
      TagIs doc c t →
      Stands v b s.fill →
      LeadsFrom doc root opened' (runs doc c.end (child whole doc kinds.node (get_or opened (s.depth - 1) no_level).row t (frames_of doc root opened s.depth) v)) b' r

-- what walking the open nodes to the root's end says
abbrev pub EndsNodes : State Shown → Lent → Result Fill Refusal → Type 0
EndsNodes x b (Err y) = x ≡ refused y
EndsNodes x b (Ok g) = (u : Tables Shown) × Stands u b g × (x ≡ accepted u)

pub record Walks (doc : List ℕ) (root : Name) (opened : List Level) (s : Walk) (b b' : Lent) (r : Result Fill Refusal) : Type 0 where
  pub leads : (v : Tables Shown) → Stands v b s.fill → EndsNodes (runs doc s.fill.at (reading (frames_of doc root opened s.depth) v)) b' r

-- what reading a whole document says, apart from its limit and its UTF-8
pub record ReadsWhole (doc : List ℕ) (b : Lent) (r : Result Fill Refusal) : Type 0 where
  pub ends : EndsNodes (runs doc 0 begun) b r

-- what reading the root element says
pub record ReadsRoot (doc : List ℕ) (c : StartTag) (b : Lent) (r : Result Fill Refusal) : Type 0 where
  pub ends : (t : Tag) → TagIs doc c t → EndsNodes (runs doc c.end (begins whole doc kinds.node t [] (record { rows = []; warnings = [] }))) b r

-- room for the open nodes: the root's row is 0
pub record Levels (opened : List Level) : Type 0 where
  pub long : length opened ≡ 1024
  pub root : (get_or opened 0 no_level).row ≡ 0

-- the root's row has been put, and it is open
pub record RootOpen (doc : List ℕ) (c : StartTag) (g : Fill) (rows text : List ℕ) : Type 0 where
  pub bounds : Bounded doc g
  pub one : g.rows ≡ 1
  pub at : g.at ≡ c.end
  pub named : c.at + c.len ≤ length doc
  pub stands :
      (t : Tag) (w : List ℕ) →
      TagIs doc c t →
      (v : Tables Shown)
      × Stands v (lent rows w text) g
      × (begins whole doc kinds.node t [] (record { rows = []; warnings = [] }) ≡ reading (element kinds.node (name_at doc c.at c.len) 0 ∷ []) v)
