-- What the reader's functions say: what the structs stand for, and how a run goes on after each answer.
use Rattle.std.specs.Prelude.{ℕ, suc, ◌+◌, ◌-◌, ◌*◌, ◌≤◌, ◌<◌, ◌≡◌, List, ◌∷◌, Bool, true, false, not, eqb, length, take, drop, get_or, Result, Ok, Err}
use Rattle.std.proofs.Math.Option.{Option, none, some}
use denote.Ref.{at_last}
use Rattle.slices.specs.Bytes.{if, bytes, all}
use Rattle.utf8.specs.WellFormed.{ill_formed}
use Rattle.tables.specs.Table.{Rep}
use Rattle.answers.specs.Text.{text}
use Rattle.references.specs.Unescape.{unescape, plain}
use Rattle.document.specs.Kinds as kinds
use Rattle.document.specs.Tags.{Shown, lookup, tp_type}
use Rattle.document.specs.Tokens as tokens
use Rattle.document.specs.Tokens.{Tag, start, close, fault, end, more, last, next}
use Rattle.document.specs.Refusals.{fault_in}
use Rattle.document.specs.Rows.{Row, Tables, words_from, texts, warned}
use Rattle.document.specs.Elements.{kind_of, among, held_by, opens, refuses, opens_as}
use Rattle.document.specs.Reading as reading
use Rattle.document.specs.Reading.{Purpose, Frame, element, State, refused, name_of, parent_of, closed, with_row, shut, started, child, noted, begins, unsupported, docstring_in, passing, run, Name, tag_name}
use Rattle.document.specs.declared.Form.{Form}
use Rattle.document.specs.declared.Form.TheVariants.{Absent, Plain, Changed}
use Rattle.document.specs.declared.Value.{Value}
use Rattle.document.specs.declared.Values.{Values}
use Rattle.document.specs.declared.StartTag.{StartTag}
use Rattle.document.specs.declared.Fill.{Fill}
use Rattle.document.specs.declared.Token.{Token}
use Rattle.document.specs.declared.Next.{Next}
use Rattle.document.specs.declared.Closing.{Closing}
use Rattle.document.specs.declared.Refusal.{Refusal}
use Rattle.document.specs.declared.Reader.{Reader}
pub use Rattle.document.specs.Elements.{whole}

abbrev pub runs : List ℕ → ℕ → State Shown → State Shown
runs doc at s = run whole doc at s

-- the name that stands at a place, with a length
abbrev pub name_at : List ℕ → ℕ → ℕ → Name
name_at doc at len = record { at = at; bytes = take len (drop at doc) }

-- how a raw value that is there shows its text
abbrev pub form_of : List ℕ → Form
form_of raw = if (all plain raw) Plain Changed

-- a form that is none
abbrev pub is_none : Form → Bool
is_none Absent = true
is_none Plain = false
is_none Changed = false

abbrev pub is_absent : Value → Bool
is_absent v = is_none v.form

-- a value that is there: the attribute's raw value stands in the document, and shows its text
pub record Held (doc : List ℕ) (v : Value) (s : Shown) : Type 0 where
  pub at : v.at ≡ s.attr.valued
  pub len : v.len ≡ length s.attr.raw
  pub raw : take v.len (drop v.at doc) ≡ s.attr.raw
  pub form : v.form ≡ form_of s.attr.raw
  pub shows : unescape s.attr.raw ≡ text s.value

abbrev pub ValueIs : List ℕ → Value → Option Shown → Type 0
ValueIs doc v none = v.form ≡ Absent
ValueIs doc v (some s) = Held doc v s

-- a value, there or not, is no longer than what is between the two places, and ends before the second
pub record ValueFits (from to : ℕ) (v : Value) : Type 0 where
  pub until : v.at + v.len ≤ to
  pub short : from + v.len ≤ to

pub record ValuesFit (from to : ℕ) (v : Values) : Type 0 where
  pub name : ValueFits from to v.name
  pub ty : ValueFits from to v.ty
  pub value : ValueFits from to v.value
  pub access : ValueFits from to v.access
  pub direction : ValueFits from to v.direction
  pub suffix : ValueFits from to v.suffix
  pub tp : ValueFits from to v.tp

-- a value lies in a document that is within the limit
pub record Lies (doc : List ℕ) (v : Value) : Type 0 where
  pub small : length doc ≤ 1048576
  pub inside : v.at + v.len ≤ length doc

-- the raw bytes of a value
pub record Raw (doc : List ℕ) (v : Value) (r : List ℕ) : Type 0 where
  pub is : r ≡ take v.len (drop v.at doc)
  pub many : length r ≡ v.len

-- the values of the attributes of a tag
pub record ValuesAre (doc : List ℕ) (v : Values) (xs : List Shown) : Type 0 where
  pub name : ValueIs doc v.name (lookup (bytes "name") xs)
  pub ty : ValueIs doc v.ty (lookup (bytes "type") xs)
  pub value : ValueIs doc v.value (lookup (bytes "value") xs)
  pub access : ValueIs doc v.access (lookup (bytes "access") xs)
  pub direction : ValueIs doc v.direction (lookup (bytes "direction") xs)
  pub suffix : ValueIs doc v.suffix (lookup (bytes "suffix") xs)
  pub tp : ValueIs doc v.tp (tp_type xs)

-- a start tag lies in the document
pub record TagFits (doc : List ℕ) (c : StartTag) : Type 0 where
  pub named : 0 < c.len
  pub inside : c.at + c.len < c.end
  pub within : c.end ≤ length doc
  pub ends : get_or doc (c.end - 1) 0 ≡ 62
  pub values : ValuesFit c.at c.end c.values

-- the name of a tag
pub record NameIs (doc : List ℕ) (c : StartTag) (n : List ℕ) : Type 0 where
  pub is : n ≡ take c.len (drop c.at doc)
  pub len : length n ≡ c.len

-- a start tag is the token's
pub record TagIs (doc : List ℕ) (c : StartTag) (t : Tag) : Type 0 where
  pub at : c.at ≡ suc t.at
  pub named : NameIs doc c t.name
  pub kind : c.kind ≡ kind_of t.name
  pub closes : c.closes ≡ t.self
  pub end : c.end ≡ t.after
  pub values : ValuesAre doc c.values t.attrs

-- the buffers that a caller lends: rows, warnings, text
pub data Lent : Type 0 where
  lent : List ℕ → List ℕ → List ℕ → Lent

abbrev pub rows_in : Lent → List ℕ
rows_in (lent r w t) = r

abbrev pub warnings_in : Lent → List ℕ
warnings_in (lent r w t) = w

abbrev pub text_in : Lent → List ℕ
text_in (lent r w t) = t

-- those that a reader has been lent
abbrev pub lent_to : Reader → Lent
lent_to r = lent r.rows.now r.warnings.now r.text.now

-- the same document, classes and buffers, their pointers and ghost names with them; each buffer is as long as it was
pub record Keeps (r r' : Reader) : Type 0 where
  pub doc : r'.doc ≡ r.doc
  pub classes : r'.classes ≡ r.classes
  pub rows : r'.rows ≡ at_last r.rows r'.rows.now
  pub warnings : r'.warnings ≡ at_last r.warnings r'.warnings.now
  pub text : r'.text ≡ at_last r.text r'.text.now
  pub rows_long : length r'.rows.now ≡ length r.rows.now
  pub warnings_long : length r'.warnings.now ≡ length r.warnings.now
  pub text_long : length r'.text.now ≡ length r.text.now

-- the counts at another place
abbrev pub moved : Fill → ℕ → Fill
moved f at = record { at = at; rows = f.rows; warnings = f.warnings; text = f.text }

-- the buffers, as far as they are used, stand for the tables
pub record Stands (u : Tables Shown) (b : Lent) (f : Fill) : Type 0 where
  pub rows : Rep 16 (rows_in b) f.rows (words_from 0 u.rows)
  pub many : length u.rows ≡ f.rows
  pub warnings : Rep 4 (warnings_in b) f.warnings (warned u.warnings)
  pub text : Rep 1 (text_in b) f.text (texts u.rows)

-- the document is UTF-8 and within the limit
pub record Sound (doc : List ℕ) : Type 0 where
  pub small : length doc ≤ 1048576
  pub utf8 : ill_formed doc ≡ length doc

-- between tags: the place is in the document, and the counts are small for it
pub record Bounded (doc : List ℕ) (f : Fill) : Type 0 where
  pub sound : Sound doc
  pub inside : f.at ≤ length doc
  pub few : 3 * (f.rows + f.warnings) ≤ f.at
  pub text : f.text ≤ 3 * f.at

-- after a start tag whose row or warning is not put yet
pub record Ready (doc : List ℕ) (c : StartTag) (f : Fill) : Type 0 where
  pub sound : Sound doc
  pub fits : TagFits doc c
  pub at : f.at ≡ c.end
  pub few : 3 * (f.rows + f.warnings) < c.at
  pub text : f.text ≤ 3 * c.at

-- an answer that is no fault is further on, with no fewer rows, within bounds
abbrev pub Onward : List ℕ → Fill → Result Fill Refusal → Type 0
Onward doc f (Err x) = Unit {0}
Onward doc f (Ok g) = (f.at ≤ g.at) × (f.rows ≤ g.rows) × Bounded doc g

-- a run refuses as the answer says; or it goes on with these frames, the buffers stand for its tables, and the first n rows
-- are as they were
abbrev pub Ends : List ℕ → State Shown → List Frame → ℕ → List (Row Shown) → Lent → Result Fill Refusal → Type 0
Ends doc s fs n before b (Err x) = s ≡ refused x
Ends doc s fs n before b (Ok g) =
    (v : Tables Shown) × Stands v b g × (s ≡ runs doc g.at (closed fs v)) × (take n v.rows ≡ before)

-- what reading an element of kind k says, from after its start tag on; p is the parent's row plus one
pub record Begins (doc : List ℕ) (k : ℕ) (c : StartTag) (p : ℕ) (f : Fill) (b b' : Lent) (r : Result Fill Refusal) : Type 0 where
  pub onward : Onward doc f r
  pub ends :
      (t : Tag) (fs : List Frame) (u : Tables Shown) →
      TagIs doc c t →
      parent_of fs ≡ p →
      Stands u b f →
      Ends doc (runs doc c.end (begins whole doc k t fs u)) (noted k t fs) f.rows u.rows b' r

-- what putting the row of an element of kind k says: the tag's first fault, or its row in the tables
abbrev pub OnwardOpening : List ℕ → Fill → Result Fill Refusal → Type 0
OnwardOpening doc f (Err x) = Unit {0}
OnwardOpening doc f (Ok g) = (g.at ≡ f.at) × (g.rows ≡ f.rows + 1) × Bounded doc g

abbrev pub IsOpening : List ℕ → ℕ → StartTag → ℕ → Fill → List ℕ → List ℕ → List ℕ → List ℕ → Result Fill Refusal → Type 0
IsOpening doc k c p f rows rows' bytes bytes' (Err x) = (t : Tag) → TagIs doc c t → opens_as whole k p t ≡ refuses x
IsOpening doc k c p f rows rows' bytes bytes' (Ok g) =
    (t : Tag) →
    TagIs doc c t →
    (row : Row Shown)
    × (opens_as whole k p t ≡ opens row)
    × ((u : Tables Shown) (w : List ℕ) → Stands u (lent rows w bytes) f → Stands (with_row row u) (lent rows' w bytes') g)

pub record Opening (doc : List ℕ) (k : ℕ) (c : StartTag) (p : ℕ) (f : Fill) (rows rows' bytes bytes' : List ℕ) (r : Result Fill Refusal) : Type 0 where
  pub at : f.at ≡ c.end
  pub onward : OnwardOpening doc f r
  pub is : IsOpening doc k c p f rows rows' bytes bytes' r

-- what passing over an element that its parent does not hold says: rows and text are left alone
pub record Ignores (doc : List ℕ) (c : StartTag) (f : Fill) (w w' : List ℕ) (r : Result Fill Refusal) : Type 0 where
  pub onward : Onward doc f r
  pub ends :
      (t : Tag) (fs : List Frame) (u : Tables Shown) (rows bytes : List ℕ) →
      TagIs doc c t →
      Stands u (lent rows w bytes) f →
      Ends doc (runs doc c.end (unsupported whole doc t fs u)) fs f.rows u.rows (lent rows w' bytes) r

-- what reading a docstring for row i says: warnings and text are left alone
pub record Captures (doc : List ℕ) (c : StartTag) (i : ℕ) (f : Fill) (rows rows' : List ℕ) (r : Result Fill Refusal) : Type 0 where
  pub onward : Onward doc f r
  pub ends :
      (t : Tag) (fs : List Frame) (u : Tables Shown) (w bytes : List ℕ) →
      TagIs doc c t →
      Stands u (lent rows w bytes) f →
      Ends doc (runs doc c.end (docstring_in whole doc t fs i u)) fs i (take i u.rows) (lent rows' w bytes) r

-- what reading a docstring or an element that its parent does not hold says, in every element that holds docstrings, with row i
pub record Others (doc : List ℕ) (c : StartTag) (i : ℕ) (f : Fill) (rows rows' w w' : List ℕ) (r : Result Fill Refusal) : Type 0 where
  pub onward : Onward doc f r
  pub ends :
      (k : ℕ) (t : Tag) (fs : List Frame) (u : Tables Shown) (bytes : List ℕ) →
      among c.kind (held_by k) ≡ false →
      not (eqb k kinds.annotation) ≡ true →
      TagIs doc c t →
      Stands u (lent rows w bytes) f →
      Ends doc (runs doc c.end (child whole doc k i t fs u)) fs i (take i u.rows) (lent rows' w' bytes) r

-- what reading a child says, in every element that holds these kinds, and docstrings or not, with row i
pub record Child (doc : List ℕ) (hs : List ℕ) (docs : Bool) (c : StartTag) (i : ℕ) (f : Fill) (b b' : Lent) (r : Result Fill Refusal) : Type 0 where
  pub onward : Onward doc f r
  pub ends :
      (k : ℕ) (n : Name) (t : Tag) (fs : List Frame) (u : Tables Shown) →
      held_by k ≡ hs →
      not (eqb k kinds.annotation) ≡ docs →
      TagIs doc c t →
      Stands u b f →
      Ends doc (runs doc c.end (child whole doc k i t (element k n i ∷ fs) u)) (element k n i ∷ fs) i (take i u.rows) b' r

-- what reading the rest of such an element says, whose name stands in the document
pub record Children (doc : List ℕ) (hs : List ℕ) (docs : Bool) (at len i : ℕ) (f : Fill) (b b' : Lent) (r : Result Fill Refusal) : Type 0 where
  pub onward : Onward doc f r
  pub ends :
      (k : ℕ) (fs : List Frame) (u : Tables Shown) →
      held_by k ≡ hs →
      not (eqb k kinds.annotation) ≡ docs →
      Stands u b f →
      Ends doc (runs doc f.at (reading.reading (element k (name_at doc at len) i ∷ fs) u)) fs i (take i u.rows) b' r

-- what reading all that follows the row of such an element says: the element is closed by its own tag, or its children are read
pub record Contents (doc : List ℕ) (hs : List ℕ) (docs : Bool) (c : StartTag) (i : ℕ) (f : Fill) (b b' : Lent) (r : Result Fill Refusal) : Type 0 where
  pub onward : Onward doc f r
  pub ends :
      (k : ℕ) (t : Tag) (fs : List Frame) (u : Tables Shown) →
      held_by k ≡ hs →
      not (eqb k kinds.annotation) ≡ docs →
      TagIs doc c t →
      Stands u b f →
      Ends doc (runs doc f.at (if t.self (closed fs u) (reading.reading (element k (tag_name t) i ∷ fs) u))) fs i (take i u.rows) b' r

-- the next token from a place on
abbrev pub OnwardToken : List ℕ → ℕ → Result Token Refusal → Type 0
OnwardToken doc from (Err x) = Unit {0}
OnwardToken doc from (Ok (Token.End p)) = Unit {0}
OnwardToken doc from (Ok (Token.Close c)) =
    (from ≤ c.lt) × (c.at ≡ c.lt + 2) × (c.at + c.len < c.end) × (c.end ≤ length doc) × (get_or doc c.lt 0 ≡ 60)
OnwardToken doc from (Ok (Token.Start c)) = (from < c.at) × TagFits doc c

-- the answer is what the definition has; for a fault it is the refusal of its number and place
abbrev pub Comes : List ℕ → tokens.Next → Result Token Refusal → Type 0
Comes doc next (Err x) = (n : ℕ) × (p : ℕ) × (next ≡ last (fault n p)) × (x ≡ fault_in doc n p)
Comes doc next (Ok (Token.End p)) = next ≡ last (end p)
Comes doc next (Ok (Token.Close c)) = next ≡ more (close c.lt (take c.len (drop c.at doc)) c.end) c.end
Comes doc next (Ok (Token.Start c)) = (t : Tag) × TagIs doc c t × (next ≡ more (start t) c.end)

pub record Tokenises (doc : List ℕ) (from : ℕ) (r : Result Token Refusal) : Type 0 where
  pub onward : OnwardToken doc from r
  pub is : Comes doc (next (drop from doc) from) r

-- what comes next in an open element, whatever the element is
abbrev pub OnwardNext : List ℕ → ℕ → Result Next Refusal → Type 0
OnwardNext doc from (Err x) = Unit {0}
OnwardNext doc from (Ok (Next.Close z)) = (from ≤ z.lt) × (z.lt < z.end) × (z.end ≤ length doc) × (get_or doc z.lt 0 ≡ 60)
OnwardNext doc from (Ok (Next.Start c)) = (from < c.at) × TagFits doc c

abbrev pub Leads : List ℕ → ℕ → Frame → List Frame → Tables Shown → Result Next Refusal → Type 0
Leads doc from f fs u (Err x) = runs doc from (reading.reading (f ∷ fs) u) ≡ refused x
Leads doc from f fs u (Ok (Next.Close z)) = runs doc from (reading.reading (f ∷ fs) u) ≡ runs doc z.end (shut doc f fs u z.lt)
Leads doc from f fs u (Ok (Next.Start c)) =
    (t : Tag) × TagIs doc c t × (runs doc from (reading.reading (f ∷ fs) u) ≡ runs doc c.end (started whole doc f fs u t))

-- from a place on, in an element whose name stands at another, with a length
pub record Steps (doc : List ℕ) (from at len : ℕ) (r : Result Next Refusal) : Type 0 where
  pub onward : OnwardNext doc from r
  pub leads : (f : Frame) (fs : List Frame) (u : Tables Shown) → name_of f ≡ name_at doc at len → Leads doc from f fs u r

-- what passing over the rest of an element says, whatever for, when so many elements are open in what is passed over
abbrev pub OnwardPassed : List ℕ → ℕ → Result Closing Refusal → Type 0
OnwardPassed doc from (Err x) = Unit {0}
OnwardPassed doc from (Ok z) = (from ≤ z.lt) × (z.lt < z.end) × (z.end ≤ length doc) × (get_or doc z.lt 0 ≡ 60)

abbrev pub Passing : List ℕ → ℕ → Purpose → List Name → List Frame → Tables Shown → Result Closing Refusal → Type 0
Passing doc from p ns fs u (Err x) = runs doc from (reading.reading (passing p ns ∷ fs) u) ≡ refused x
Passing doc from p ns fs u (Ok z) =
    runs doc from (reading.reading (passing p ns ∷ fs) u) ≡ runs doc z.end (shut doc (passing p ns) fs u z.lt)

pub record Passes (doc : List ℕ) (from at len depth : ℕ) (r : Result Closing Refusal) : Type 0 where
  pub onward : OnwardPassed doc from r
  pub leads : (p : Purpose) (ns : List Name) (fs : List Frame) (u : Tables Shown) → suc (length ns) ≡ depth → Passing doc from p (name_at doc at len ∷ ns) fs u r
