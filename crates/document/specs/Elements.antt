-- Elements (docs/FORMAT.md, Elements): which name is which kind, what may stand in what, and what a start tag needs.
use Rattle.std.specs.Prelude.{ℕ, suc, List, [], ◌∷◌, Bool, true, false, not, ◌&&◌, eqb}
use Rattle.std.proofs.Math.Option.{Option, none, some}
use Rattle.slices.specs.Bytes.{if, bytes, other, all, empty, same}
use Rattle.names.specs.Names.{interface_name, member_name, property_name}
use Rattle.names.specs.Signature.{signature}
use Rattle.document.specs.Kinds as kinds
use Rattle.document.specs.Tags.{Shown, lookup, tp_type}
use Rattle.document.specs.Tokens.{Tag}
use Rattle.document.specs.Rows.{Row}
use Rattle.document.specs.Refusals.{bare, showing, lacking, raw_of}
use Rattle.document.specs.declared.Refusal.{Refusal}

-- what follows the last colon (58)
abbrev pub local_name : List ℕ → List ℕ
local_name [] = []
local_name (b ∷ l) = let r = local_name l in if (all (other 58) (b ∷ l)) (b ∷ l) r

-- by local name; 0 is any other
abbrev pub local_kind : List ℕ → ℕ
local_kind n =
    if (same n (bytes "simple-type")) kinds.simple_type
    (if (same n (bytes "enum")) kinds.enum
    (if (same n (bytes "enumvalue")) kinds.enumvalue
    (if (same n (bytes "struct")) kinds.struct
    (if (same n (bytes "member")) kinds.member
    (if (same n (bytes "mapping")) kinds.mapping
    (if (same n (bytes "docstring")) kinds.docstring 0))))))

-- by exact name; else by local name
unfoldable pub kind_of : List ℕ → ℕ
kind_of n =
    let l = local_kind (local_name n) in
    if (same n (bytes "node")) kinds.node
    (if (same n (bytes "interface")) kinds.interface
    (if (same n (bytes "method")) kinds.method
    (if (same n (bytes "property")) kinds.property
    (if (same n (bytes "signal")) kinds.signal
    (if (same n (bytes "annotation")) kinds.annotation
    (if (same n (bytes "arg")) kinds.arg l))))))

abbrev pub among : ℕ → List ℕ → Bool
among k [] = false
among k (x ∷ xs) = let r = among k xs in if (eqb k x) true r

-- what an element of a kind holds, besides docstrings
abbrev pub held_by : ℕ → List ℕ
held_by k =
    if (eqb k kinds.node) kinds.in_node
    (if (eqb k kinds.interface) kinds.in_interface
    (if (among k kinds.callables) kinds.in_callable
    (if (among k kinds.values) kinds.in_value
    (if (eqb k kinds.enum) (kinds.enumvalue ∷ [])
    (if (among k (kinds.struct ∷ kinds.mapping ∷ [])) (kinds.member ∷ []) [])))))

unfoldable pub may_hold : ℕ → ℕ → Bool
may_hold k c = among c (held_by k)

-- property 1 read, 2 write, 3 readwrite; arg 1 in, 2 out; 0 is none of these
abbrev pub access_of : List ℕ → ℕ
access_of s = if (same s (bytes "read")) 1 (if (same s (bytes "write")) 2 (if (same s (bytes "readwrite")) 3 0))

abbrev pub direction_of : List ℕ → ℕ
direction_of s = if (same s (bytes "in")) 1 (if (same s (bytes "out")) 2 0)

-- a signature that is not empty
abbrev pub some_signature : List ℕ → Bool
some_signature s = not (empty s) && signature s

abbrev pub attr : List ℕ → Tag → Option Shown
attr key t = lookup key t.attrs

-- what a start tag comes to: its row, or a refusal
pub data Opened (A : Type 0) : Type 0 where
  opens : Row A → Opened A
  refuses : Refusal → Opened A

-- what a row keeps of an attribute and of the place of its element
pub record Keeping (A : Type 0) : Type 0 where
  pub attribute : Shown → A
  pub place : ℕ → ℕ

-- the reader keeps all
abbrev pub whole : Keeping Shown
whole = record { attribute = λ s. s; place = λ p. p }

-- a row keeps what `keep` says; p is the parent's row plus one
module _ {A : Type 0} (keep : Keeping A) where
  abbrev pub kept : Option Shown → Option A
  kept none = none
  kept (some s) = some (keep.attribute s)

  abbrev pub row : Tag → ℕ → ℕ → Option Shown → Option Shown → Option Shown → ℕ → Row A
  row t k p n v tp w = record { kind = k; parent = p; name = kept n; value = kept v; tp = kept tp; doc = none; word = w; at = keep.place t.at }

  -- the attribute of a key is there
  abbrev pub required : ℕ → Option Shown → Tag → (Shown → Opened A) → Opened A
  required k none t f = refuses (lacking k t)
  required k (some s) t f = f s

  abbrev pub valid : Bool → Refusal → Opened A → Opened A
  valid b x r = if b r (refuses x)

  -- interface, method, signal: name there, name good (13 at the element name)
  abbrev pub named_row : (List ℕ → Bool) → ℕ → ℕ → Tag → Opened A
  named_row good k p t =
      required 1 (attr (bytes "name") t) t λ n. valid (good n.value) (bare 13 (suc t.at)) (opens (row t k p (some n) none none 0))

  -- the same, then type there, signature good (14), access there, access good (15 after the tag, showing the raw value)
  abbrev pub property_row : ℕ → Tag → Opened A
  property_row p t =
      required 1 (attr (bytes "name") t) t λ n.
      valid (property_name n.value) (bare 13 (suc t.at))
      (required 2 (attr (bytes "type") t) t λ s.
      valid (signature s.value) (bare 14 (suc t.at))
      (required 3 (attr (bytes "access") t) t λ a.
      valid (not (eqb (access_of a.value) 0)) (showing 15 t.after (raw_of a))
      (opens (row t kinds.property p (some n) (some s) (tp_type t.attrs) (access_of a.value)))))

  -- name, value
  abbrev pub annotation_row : ℕ → Tag → Opened A
  annotation_row p t =
      required 1 (attr (bytes "name") t) t λ n. required 4 (attr (bytes "value") t) t λ v. opens (row t kinds.annotation p (some n) (some v) none 0)

  -- a direction that is there is `in` or `out` (16 after the tag, showing the raw value)
  abbrev pub directed : Option Shown → Tag → (ℕ → Opened A) → Opened A
  directed none t f = f 0
  directed (some d) t f = valid (not (eqb (direction_of d.value) 0)) (showing 16 t.after (raw_of d)) (f (direction_of d.value))

  -- type, signature, direction
  abbrev pub arg_row : ℕ → Tag → Opened A
  arg_row p t =
      required 2 (attr (bytes "type") t) t λ s.
      valid (signature s.value) (bare 14 (suc t.at))
      (directed (attr (bytes "direction") t) t λ d. opens (row t kinds.arg p (attr (bytes "name") t) (some s) (tp_type t.attrs) d))

  -- the row of an element of kind k
  unfoldable pub opens_as : ℕ → ℕ → Tag → Opened A
  opens_as k p t =
      let n = attr (bytes "name") t in
      if (eqb k kinds.node) (opens (row t kinds.node p n none none 0))
      (if (eqb k kinds.interface) (named_row interface_name kinds.interface p t)
      (if (eqb k kinds.method) (named_row member_name kinds.method p t)
      (if (eqb k kinds.property) (property_row p t)
      (if (eqb k kinds.signal) (named_row member_name kinds.signal p t)
      (if (eqb k kinds.annotation) (annotation_row p t)
      (if (eqb k kinds.arg) (arg_row p t)
      (if (among k kinds.typed) (opens (row t k p n (attr (bytes "type") t) none 0))
      (if (eqb k kinds.enumvalue) (opens (row t kinds.enumvalue p (attr (bytes "suffix") t) (attr (bytes "value") t) none 0))
      (if (eqb k kinds.member) (opens (row t kinds.member p n (attr (bytes "type") t) (tp_type t.attrs) 0))
      (opens (row t k p n none none 0)))))))))))
