-- What the functions say: a definition's kind and its parts, why it is dropped, and how a run goes on in it.
use Rattle.std.specs.Prelude.{ℕ, ◌+◌, ◌≤◌, ◌<◌, ◌≡◌, List, ◌∷◌, Bool, true, false, not, ◌||◌, eqb, take, Result, Ok, Err}
use Rattle.slices.specs.Bytes.{if, bytes}
use Rattle.names.specs.Signature.{basic_signature}
use Rattle.document.specs.Kinds as kinds
use Rattle.document.specs.Tags.{Shown}
use Rattle.document.specs.Tokens.{Tag}
use Rattle.document.specs.Rows.{Row, Tables}
use Rattle.document.specs.Elements.{among, held_by, attr}
use Rattle.document.specs.Reading as reading
use Rattle.document.specs.Reading.{Name, tag_name, Definition, Frame, definition, State, refused, closed, judged, child, begins, tag_reason, parts_reason, reason_of, complete, is_some, one_more}
use Rattle.document.specs.Outcome as outcome
use Rattle.document.specs.Outcome.{Lent, lent, name_at, Stands, Bounded, Ready, TagIs, runs, whole}
use Rattle.document.specs.declared.StartTag.{StartTag}
use Rattle.document.specs.declared.Fill.{Fill}
use Rattle.document.specs.declared.Refusal.{Refusal}
use Rattle.telepathy.specs.declared.Parts.{Parts}
use Rattle.telepathy.specs.declared.Inner.{Inner}

-- simple-type, enum, struct, mapping
pub record DefinitionKind (k : ℕ) : Type 0 where
  pub is : among k kinds.definitions ≡ true

-- enumvalue, member
pub record PartKind (k : ℕ) : Type 0 where
  pub is : among k kinds.parts ≡ true

-- whether a definition holds parts of a kind
pub record Holds (k c : ℕ) (r : Bool) : Type 0 where
  pub is : r ≡ among c (held_by k)

-- the parts that were seen, as the definition has them
abbrev pub seen : Parts → reading.Parts
seen p = record { count = p.count; broken = p.broken; basic = p.basic }

abbrev pub no_parts : Parts
no_parts = record { count = 0; broken = false; basic = false }

-- no parts yet
pub record Unseen (p : Parts) : Type 0 where
  pub is : p ≡ no_parts

-- whether a part is complete; whether one was incomplete; whether the first one's type is basic
pub record Completes (doc : List ℕ) (c : StartTag) (r : Bool) : Type 0 where
  pub is : (t : Tag) → TagIs doc c t → r ≡ complete c.kind t

pub record Breaks (doc : List ℕ) (c : StartTag) (p : Parts) (r : Bool) : Type 0 where
  pub is : (t : Tag) → TagIs doc c t → r ≡ (p.broken || not (complete c.kind t))

pub record Keyed (doc : List ℕ) (c : StartTag) (p : Parts) (r : Bool) : Type 0 where
  pub is : (t : Tag) → TagIs doc c t → r ≡ if (eqb p.count 0) (is_some basic_signature (attr (bytes "type") t)) p.basic

-- one part more
pub record More (doc : List ℕ) (c : StartTag) (p r : Parts) : Type 0 where
  pub kind : PartKind c.kind
  pub counts : r.count ≡ p.count + 1
  pub is : (t : Tag) → TagIs doc c t → seen r ≡ one_more c.kind t (seen p)

-- a definition that is open: kind, row, place of `<`, name, the tag's reason, parts
abbrev pub open_as : ℕ → ℕ → ℕ → Name → ℕ → Parts → Definition
open_as k i lt n why p = record { kind = k; at = lt; name = n; row = i; reason = why; parts = seen p }

-- why a definition is dropped: by its tag, by its parts, by both
pub record TagTold (doc : List ℕ) (c : StartTag) (r : ℕ) : Type 0 where
  pub is : (t : Tag) → TagIs doc c t → r ≡ tag_reason c.kind (attr (bytes "name") t) (attr (bytes "type") t)

pub record PartsTold (k : ℕ) (p : Parts) (r : ℕ) : Type 0 where
  pub is : r ≡ parts_reason k (seen p)

abbrev pub tagged : StartTag → ℕ → Tag → Parts → Definition
tagged c i t p = open_as c.kind i t.at (tag_name t) (tag_reason c.kind (attr (bytes "name") t) (attr (bytes "type") t)) p

pub record Told (doc : List ℕ) (c : StartTag) (p : Parts) (r : ℕ) : Type 0 where
  pub is : (t : Tag) (i : ℕ) → TagIs doc c t → r ≡ reason_of (tagged c i t p)

-- an answer that is no fault is further on, with no fewer rows and no more parts than its place, within bounds
abbrev pub Onward : List ℕ → Fill → Result Inner Refusal → Type 0
Onward doc f (Err x) = Unit {0}
Onward doc f (Ok x) = (f.at ≤ x.fill.at) × (f.rows ≤ x.fill.rows) × (x.parts.count ≤ x.fill.at) × Bounded doc x.fill

-- a run refuses as the answer says; or it goes on in the state for the parts seen and for tables that the buffers stand for,
-- and the first i rows are as they were
abbrev pub Ends : List ℕ → State Shown → (Parts → Tables Shown → State Shown) → ℕ → List (Row Shown) → Lent → Result Inner Refusal → Type 0
Ends doc s after i before b (Err x) = s ≡ refused x
Ends doc s after i before b (Ok x) =
    (v : Tables Shown) × Stands v b x.fill × (s ≡ runs doc x.fill.at (after x.parts v)) × (take i v.rows ≡ before)

-- what reading a part says, when these parts were seen before: whatever the definition is, the part is noted in it
pub record Noted (doc : List ℕ) (c : StartTag) (i : ℕ) (p : Parts) (f : Fill) (b b' : Lent) (r : Result Inner Refusal) : Type 0 where
  pub onward : Onward doc f r
  pub ends :
      (k lt why : ℕ) (n : Name) (t : Tag) (fs : List Frame) (u : Tables Shown) →
      TagIs doc c t →
      Stands u b f →
      Ends doc (runs doc c.end (begins whole doc c.kind t (definition (open_as k i lt n why p) ∷ fs) u)) (λ q v. reading.reading (definition (open_as k i lt n why q) ∷ fs) v) f.rows u.rows b' r

-- what reading a child of a definition of kind k with row i says, when these parts were seen before
pub record Child (doc : List ℕ) (k i : ℕ) (c : StartTag) (p : Parts) (f : Fill) (b b' : Lent) (r : Result Inner Refusal) : Type 0 where
  pub onward : Onward doc f r
  pub ends :
      (lt why : ℕ) (n : Name) (t : Tag) (fs : List Frame) (u : Tables Shown) →
      TagIs doc c t →
      Stands u b f →
      Ends doc (runs doc c.end (child whole doc k i t (definition (open_as k i lt n why p) ∷ fs) u)) (λ q v. reading.reading (definition (open_as k i lt n why q) ∷ fs) v) i (take i u.rows) b' r

-- what reading the rest of a definition says, of which no part was seen, and whose name stands in the document
pub record Body (doc : List ℕ) (k at len i : ℕ) (f : Fill) (b b' : Lent) (r : Result Inner Refusal) : Type 0 where
  pub onward : Onward doc f r
  pub ends :
      (lt why : ℕ) (fs : List Frame) (u : Tables Shown) →
      Stands u b f →
      Ends doc (runs doc f.at (reading.reading (definition (open_as k i lt (name_at doc at len) why no_parts) ∷ fs) u)) (λ q v. closed fs (judged (open_as k i lt (name_at doc at len) why q) v)) i (take i u.rows) b' r

-- a definition whose row is put: it closes, or goes on
abbrev pub entering : Tag → Definition → List Frame → Tables Shown → State Shown
entering t d fs u = let o = reading.reading (definition d ∷ fs) u in if t.self (closed fs (judged d u)) o

-- what reading all of a definition from after its row on says, but for what is dropped
pub record Content (doc : List ℕ) (c : StartTag) (i : ℕ) (f : Fill) (b b' : Lent) (r : Result Inner Refusal) : Type 0 where
  pub kind : DefinitionKind c.kind
  pub onward : Onward doc f r
  pub ends :
      (why : ℕ) (t : Tag) (fs : List Frame) (u : Tables Shown) →
      TagIs doc c t →
      Stands u b f →
      Ends doc (runs doc f.at (entering t (open_as c.kind i t.at (tag_name t) why no_parts) fs u)) (λ q v. closed fs (judged (open_as c.kind i t.at (tag_name t) why q) v)) i (take i u.rows) b' r

-- a definition that began at f is read up to h
pub record Judging (doc : List ℕ) (c : StartTag) (f h : Fill) : Type 0 where
  pub ready : Ready doc c f
  pub since : f.at ≤ h.at
  pub owner : f.rows < h.rows
  pub bounds : Bounded doc h

-- what dropping it or not says
pub record Judged (doc : List ℕ) (c : StartTag) (p : Parts) (f h : Fill) (w w' : List ℕ) (r : Fill) : Type 0 where
  pub at : r.at ≡ h.at
  pub since : f.at ≤ r.at
  pub grown : f.rows ≤ r.rows
  pub bounds : Bounded doc r
  pub stands :
      (t : Tag) (u v : Tables Shown) (b : Lent) (rows text : List ℕ) →
      TagIs doc c t →
      Stands u b f →
      Stands v (lent rows w text) h →
      take f.rows v.rows ≡ u.rows →
      Stands (judged (tagged c f.rows t p) v) (lent rows w' text) r × (take f.rows (judged (tagged c f.rows t p) v).rows ≡ u.rows)

-- what reading a definition says, from after its row on: it began at f, and its row is put at g
pub record Rest (doc : List ℕ) (c : StartTag) (f g : Fill) (b b' : Lent) (r : Result Fill Refusal) : Type 0 where
  pub kind : DefinitionKind c.kind
  pub onward : outcome.Onward doc f r
  pub ends :
      (t : Tag) (fs : List Frame) (u v : Tables Shown) (b₀ : Lent) →
      TagIs doc c t →
      Stands u b₀ f →
      Stands v b g →
      take f.rows v.rows ≡ u.rows →
      outcome.Ends doc (runs doc g.at (entering t (tagged c f.rows t no_parts) fs v)) fs f.rows u.rows b' r
