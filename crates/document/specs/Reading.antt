-- Reading: a fold of one step over the tokens (docs/FORMAT.md, Elements, Warnings, Docstrings).
use Rattle.std.specs.Prelude.{ℕ, suc, ◌+◌, ◌-◌, List, [], ◌∷◌, ◌++◌, Bool, true, false, not, ◌&&◌, ◌||◌, eqb, leb, ltb, length, take, drop}
use Rattle.std.proofs.Math.Option.{Option, none, some}
use Rattle.slices.specs.Bytes.{if, bytes, same}
use Rattle.utf8.specs.WhiteSpace.{trim_start, trim_end}
use Rattle.names.specs.Signature.{basic_signature}
use Rattle.document.specs.Kinds as kinds
use Rattle.document.specs.Tags.{Shown}
use Rattle.document.specs.Tokens.{Tag, Token, start, close, fault, end, tokens}
use Rattle.document.specs.Rows.{Row, Tables, documented}
use Rattle.document.specs.Elements.{kind_of, may_hold, among, some_signature, attr, Opened, opens, refuses, Keeping, opens_as}
use Rattle.document.specs.Refusals.{excerpt, bare, showing, showing_both, fault_in}
use Rattle.document.specs.declared.Excerpt.{Excerpt}
use Rattle.document.specs.declared.Refusal.{Refusal}

-- the name of an element that is open: its place in the start tag, and its bytes
pub record Name : Type 0 where
  pub at : ℕ
  pub bytes : List ℕ

abbrev pub tag_name : Tag → Name
tag_name t = record { at = suc t.at; bytes = t.name }

-- the name as a message shows it
abbrev pub name_shown : Name → Excerpt
name_shown n = excerpt n.at n.bytes

-- what was seen of a definition's enumvalues or members: how many, whether one is incomplete, whether the first one's type is basic
pub record Parts : Type 0 where
  pub count : ℕ
  pub broken : Bool
  pub basic : Bool

-- a definition that is open: kind, place of `<`, name in its start tag, row, why its tag alone drops it (0: it does not), parts
pub record Definition : Type 0 where
  pub kind : ℕ
  pub at : ℕ
  pub name : Name
  pub row : ℕ
  pub reason : ℕ
  pub parts : Parts

-- why content is passed over: it is ignored; or it is a docstring, which begins at a place, for a row
pub data Purpose : Type 0 where
  ignored : Purpose
  captures : ℕ → ℕ → Purpose

-- an open element: kind, name in its start tag, row; a definition; an element whose content is passed over, with the names of
-- what is open in it, innermost first, itself the last
pub data Frame : Type 0 where
  element : ℕ → Name → ℕ → Frame
  definition : Definition → Frame
  passing : Purpose → List Name → Frame

pub data State (A : Type 0) : Type 0 where
  begun : State A
  reading : List Frame → Tables A → State A
  accepted : Tables A → State A
  refused : Refusal → State A

abbrev pub innermost : List Name → Name
innermost [] = record { at = 0; bytes = [] }
innermost (n ∷ ns) = n

-- the name of the innermost element of a frame, which closes it
abbrev pub name_of : Frame → Name
name_of (element k n r) = n
name_of (definition d) = d.name
name_of (passing p ns) = innermost ns

-- the row of an element
abbrev pub row_of : Frame → ℕ
row_of (element k n r) = r
row_of (definition d) = d.row
row_of (passing p ns) = 0

-- the parent's row plus one, for what stands in the innermost element
abbrev pub parent_of : List Frame → ℕ
parent_of [] = 0
parent_of (f ∷ fs) = suc (row_of f)

-- reasons: 2 no name, 3 no type, 4 bad or empty signature; of a tag
abbrev pub type_reason : Option Shown → ℕ
type_reason none = 3
type_reason (some s) = if (some_signature s.value) 0 4

abbrev pub tag_reason : ℕ → Option Shown → Option Shown → ℕ
tag_reason k none ty = 2
tag_reason k (some n) ty = if (among k kinds.typed) (type_reason ty) 0

-- 5 incomplete enumvalue, 6 incomplete member, 7 no members, 8 not exactly 2 members, 9 key not basic; of the parts
abbrev pub parts_reason : ℕ → Parts → ℕ
parts_reason k p =
    if p.broken (if (eqb k kinds.enum) 5 6)
    (if (eqb k kinds.struct) (if (eqb p.count 0) 7 0)
    (if (eqb k kinds.mapping) (if (eqb p.count 2) (if p.basic 0 9) 8) 0))

-- only the first is told
abbrev pub reason_of : Definition → ℕ
reason_of d = if (eqb d.reason 0) (parts_reason d.kind d.parts) d.reason

-- an enumvalue needs suffix and value; a member name and a signature that is good and not empty
abbrev pub is_there : Option Shown → Bool
is_there none = false
is_there (some s) = true

abbrev pub is_some : (List ℕ → Bool) → Option Shown → Bool
is_some p none = false
is_some p (some s) = p s.value

abbrev pub complete : ℕ → Tag → Bool
complete k t =
    if (eqb k kinds.enumvalue) (is_there (attr (bytes "suffix") t) && is_there (attr (bytes "value") t))
    (is_there (attr (bytes "name") t) && is_some some_signature (attr (bytes "type") t))

abbrev pub one_more : ℕ → Tag → Parts → Parts
one_more k t p = record {
  count = suc p.count;
  broken = p.broken || not (complete k t);
  basic = if (eqb p.count 0) (is_some basic_signature (attr (bytes "type") t)) p.basic;
}

abbrev pub part_of : ℕ → Tag → Definition → Definition
part_of k t d = record { kind = d.kind; at = d.at; name = d.name; row = d.row; reason = d.reason; parts = one_more k t d.parts }

-- a part is noted in its definition
abbrev pub noted_in : ℕ → Tag → List Frame → List Frame
noted_in k t [] = []
noted_in k t (element c n r ∷ fs) = element c n r ∷ fs
noted_in k t (definition d ∷ fs) = definition (part_of k t d) ∷ fs
noted_in k t (passing p ns ∷ fs) = passing p ns ∷ fs

abbrev pub noted : ℕ → Tag → List Frame → List Frame
noted k t fs = if (among k kinds.parts) (noted_in k t fs) fs

-- the frame of an element of kind k with row i
abbrev pub frame_of : ℕ → Tag → ℕ → Frame
frame_of k t i =
    let d : Definition = record {
      kind = k;
      at = t.at;
      name = tag_name t;
      row = i;
      reason = tag_reason k (attr (bytes "name") t) (attr (bytes "type") t);
      parts = record { count = 0; broken = false; basic = false };
    } in
    if (among k kinds.definitions) (definition d) (element k (tag_name t) i)

module _ {A : Type 0} where
  abbrev pub with_row : Row A → Tables A → Tables A
  with_row r t = record { rows = t.rows ++ (r ∷ []); warnings = t.warnings }

  abbrev pub with_warning : ℕ → ℕ → List ℕ → Tables A → Tables A
  with_warning reason at name t = record { rows = t.rows; warnings = t.warnings ++ (record { reason = reason; at = at; name = name } ∷ []) }

  -- what is left when the innermost element is closed: nothing is read after the root
  abbrev pub closed : List Frame → Tables A → State A
  closed [] t = accepted t
  closed (f ∷ fs) t = reading (f ∷ fs) t

  -- a definition that cannot be read whole is left out whole, with a warning after those of its content
  abbrev pub dropped : ℕ → Definition → Tables A → Tables A
  dropped why d t = with_warning why d.at d.name.bytes (record { rows = take d.row t.rows; warnings = t.warnings })

  abbrev pub judged : Definition → Tables A → Tables A
  judged d t = let r = dropped (reason_of d) d t in if (eqb (reason_of d) 0) t r

  -- the last nonempty docstring counts, trimmed of White_Space
  abbrev pub captured : List ℕ → ℕ → ℕ → Tables A → Tables A
  captured content s i t =
      let r : Tables A = record { rows = documented i (record { start = s + trim_start content; len = trim_end content - trim_start content }) t.rows; warnings = t.warnings } in
      if (ltb (trim_start content) (trim_end content)) r t

  -- content that ends at the `<` of its closing tag has been passed over
  abbrev pub passed : List ℕ → Purpose → ℕ → Tables A → Tables A
  passed doc ignored lt t = t
  passed doc (captures s i) lt t = captured (take (lt - s) (drop s doc)) s i t

  abbrev pub inner_closed : List Name → State A → (List Name → State A) → State A
  inner_closed [] r f = r
  inner_closed (n ∷ []) r f = r
  inner_closed (n ∷ m ∷ ns) r f = f (m ∷ ns)

  -- the closing tag whose `<` stands at lt
  abbrev pub shut : List ℕ → Frame → List Frame → Tables A → ℕ → State A
  shut doc (element k n r) fs t lt = closed fs t
  shut doc (definition d) fs t lt = closed fs (judged d t)
  shut doc (passing p ns) fs t lt = inner_closed ns (closed fs (passed doc p lt t)) (λ ms. reading (passing p ms ∷ fs) t)

-- reading, where rows keep what `keep` says
module _ {A : Type 0} (keep : Keeping A) (doc : List ℕ) where
  -- 1,024 nodes may be open; the root is the first
  abbrev pub too_deep : ℕ → List Frame → Bool
  too_deep k fs = eqb k kinds.node && leb 1024 (length fs)

  -- an element of kind k begins, with its row
  abbrev pub entered : ℕ → Tag → Row A → List Frame → Tables A → State A
  entered k t r fs u =
      let f = frame_of k t (length u.rows) in
      let s = shut doc f (noted k t fs) (with_row r u) 0 in
      let o = if (too_deep k fs) (refused (bare 7 t.after)) (reading (f ∷ noted k t fs) (with_row r u)) in
      if t.self s o

  abbrev pub opened : ℕ → Tag → Opened A → List Frame → Tables A → State A
  opened k t (opens r) fs u = entered k t r fs u
  opened k t (refuses x) fs u = refused x

  unfoldable pub begins : ℕ → Tag → List Frame → Tables A → State A
  begins k t fs u = opened k t (opens_as keep k (parent_of fs) t) fs u

  -- an element that its parent does not hold: its warning, then its content
  unfoldable pub unsupported : Tag → List Frame → Tables A → State A
  unsupported t fs u =
      let w = with_warning 1 t.at t.name u in
      let o = reading (passing ignored (tag_name t ∷ []) ∷ fs) w in
      if t.self (closed fs w) o

  unfoldable pub docstring_in : Tag → List Frame → ℕ → Tables A → State A
  docstring_in t fs i u = let o = reading (passing (captures t.after i) (tag_name t ∷ []) ∷ fs) u in if t.self (closed fs u) o

  -- a start tag in an element of kind k with row i
  abbrev pub child : ℕ → ℕ → Tag → List Frame → Tables A → State A
  child k i t fs u =
      let c = kind_of t.name in
      let d = docstring_in t fs i u in
      let b = begins c t fs u in
      let o = unsupported t fs u in
      if (eqb c kinds.docstring && not (eqb k kinds.annotation)) d (if (may_hold k c) b o)

  -- a start tag in content that is passed over: the 1,025th open element is too deep
  abbrev pub inner : Purpose → List Name → Tag → List Frame → Tables A → State A
  inner p ns t fs u =
      let o = reading (passing p (tag_name t ∷ ns) ∷ fs) u in
      if t.self (reading (passing p ns ∷ fs) u) (if (leb 1024 (length ns)) (refused (bare 7 t.after)) o)

  abbrev pub started : Frame → List Frame → Tables A → Tag → State A
  started (element k n i) fs u t = child k i t (element k n i ∷ fs) u
  started (definition d) fs u t = child d.kind d.row t (definition d ∷ fs) u
  started (passing p ns) fs u t = inner p ns t fs u

  -- a token in an open element: 6 for another closing tag, whose name is shown, and the open element's; 5 at the end, with that name
  abbrev pub turn : Frame → List Frame → Tables A → Token → State A
  turn f fs u (start t) = started f fs u t
  turn f fs u (close lt m q) =
      let r = shut doc f fs u lt in
      if (same m (name_of f).bytes) r (refused (showing_both 6 q (excerpt (suc (suc lt)) m) (name_shown (name_of f))))
  turn f fs u (fault n p) = refused (fault_in doc n p)
  turn f fs u (end p) = refused (showing 5 p (name_shown (name_of f)))

  -- before the root, which may have any tag
  abbrev pub root : Token → State A
  root (start t) = begins kinds.node t [] (record { rows = []; warnings = [] })
  root (close lt m q) = refused (bare 4 (suc lt))
  root (fault n p) = refused (fault_in doc n p)
  root (end p) = refused (bare 3 p)

  abbrev pub inside : List Frame → Tables A → Token → State A
  inside [] u t = accepted u
  inside (f ∷ fs) u t = turn f fs u t

  unfoldable pub step : State A → Token → State A
  step begun t = root t
  step (reading fs u) t = inside fs u t
  step (accepted u) t = accepted u
  step (refused x) t = refused x

  abbrev pub fold : State A → List Token → State A
  fold s [] = s
  fold s (t ∷ ts) = fold (step s t) ts

  -- where reading from a place on ends
  unfoldable pub run : ℕ → State A → State A
  run at s = fold s (tokens (drop at doc) at)
