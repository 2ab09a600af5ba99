-- Sound rows (docs/FORMAT.md, Sound rows), clause by clause.
use Rattle.std.specs.Prelude.{ℕ, zero, suc, ◌-◌, ◌/◌, List, [], ◌∷◌, Bool, true, false, not, ◌&&◌, ◌||◌, eqb, leb, ltb, length}
use Rattle.slices.specs.Bytes.{if}
use Rattle.utf8.specs.WellFormed.{well_formed}
use Rattle.names.specs.Names.{interface_name, member_name, property_name}
use Rattle.names.specs.Signature.{signature, basic_signature}
use Rattle.tables.specs.Triple.{inside, shown}
use Rattle.tables.specs.declared.Triple.{Triple}
use Rattle.document.specs.Kinds as kinds
use Rattle.document.specs.Elements.{among, may_hold, some_signature}
use Rattle.items.specs.Words.{RowWords, absent, rows_of, is_child}

-- the kind of row i, or 0
abbrev pub kind_at : List RowWords → ℕ → ℕ
kind_at [] i = 0
kind_at (r ∷ rs) zero = r.kind
kind_at (r ∷ rs) (suc i) = kind_at rs i

-- row 0 is a node with parent 0; any other row's parent comes before it and may hold its kind
abbrev pub placed : List RowWords → ℕ → RowWords → Bool
placed rows zero r = eqb r.kind kinds.node && eqb r.parent 0
placed rows (suc i) r = ltb 0 r.parent && leb r.parent (suc i) && may_hold (kind_at rows (r.parent - 1)) r.kind

-- whether a kind uses three words, and whether it must
pub record Use : Type 0 where
  pub may : Bool
  pub must : Bool

abbrev pub unused : Use
unused = record { may = false; must = false }

abbrev pub optional : Use
optional = record { may = true; must = false }

abbrev pub required : Use
required = record { may = true; must = true }

-- name is present except in node and arg, where it may be missing
abbrev pub nameless : List ℕ
nameless = kinds.node ∷ kinds.arg ∷ []

abbrev pub name_use : ℕ → Use
name_use k = if (among k nameless) optional required

-- words 5-7: value of annotation and enumvalue; signature of property, arg, simple-type, enum, member; present where used
abbrev pub valued : List ℕ
valued =
    kinds.property
    ∷ kinds.annotation
    ∷ kinds.arg
    ∷ kinds.simple_type
    ∷ kinds.enum
    ∷ kinds.enumvalue
    ∷ kinds.member
    ∷ []

abbrev pub value_use : ℕ → Use
value_use k = if (among k valued) required unused

-- tp type of property, arg, member
abbrev pub tp_typed : List ℕ
tp_typed = kinds.property ∷ kinds.arg ∷ kinds.member ∷ []

abbrev pub tp_use : ℕ → Use
tp_use k = if (among k tp_typed) optional unused

-- docstring, for all but annotation
abbrev pub doc_use : ℕ → Use
doc_use k = if (eqb k kinds.annotation) unused optional

-- names of interface, method, property and signal are valid
abbrev pub valid_name : ℕ → List ℕ → Bool
valid_name k s =
    if (eqb k kinds.interface) (interface_name s)
    (if (eqb k kinds.method) (member_name s)
    (if (eqb k kinds.property) (property_name s)
    (if (eqb k kinds.signal) (member_name s) true)))

-- signatures are valid; property and arg may have the empty one, these not
abbrev pub signed : List ℕ
signed = kinds.simple_type ∷ kinds.enum ∷ kinds.member ∷ []

abbrev pub valid_value : ℕ → List ℕ → Bool
valid_value k s = if (among k kinds.values) (signature s) (if (among k signed) (some_signature s) true)

abbrev pub any_text : List ℕ → Bool
any_text s = true

-- word 14 is valid: property 1 read, 2 write, 3 readwrite; arg 1 in, 2 out, 0 none; words that a kind does not use are 0
abbrev pub valid_word : ℕ → ℕ → Bool
valid_word k w = if (eqb k kinds.property) (ltb 0 w && leb w 3) (if (eqb k kinds.arg) (leb w 2) (eqb w 0))

-- a triple is absent where it may be; else it is used, lies inside its buffer, is UTF-8 and valid
unfoldable pub good_triple : List ℕ → List ℕ → Use → (List ℕ → Bool) → Triple → Bool
good_triple document text u valid t =
    let s = shown document text t in
    let there = u.may && inside document text t && well_formed s && valid s in
    if (absent t) (not u.must) there

-- docstrings are in the document
abbrev pub in_document : Triple → Bool
in_document t = eqb t.source 0 || eqb t.source 1

-- row i of the rows, but for how many members it has
unfoldable pub good_row : List ℕ → List ℕ → List RowWords → ℕ → RowWords → Bool
good_row document text rows i r =
    let k = r.kind in
    placed rows i r
    && good_triple document text (name_use k) (valid_name k) r.name
    && good_triple document text (value_use k) (valid_value k) r.value
    && good_triple document text (tp_use k) any_text r.tp
    && good_triple document text (doc_use k) any_text r.doc
    && in_document r.doc
    && valid_word k r.word
    && ltb r.at (length document)

-- the members of a definition, in row order: the rows of kind 12 whose parent's row plus one is p, good or bad themselves
abbrev pub members_of : ℕ → List RowWords → List RowWords
members_of p [] = []
members_of p (r ∷ rs) = let ms = members_of p rs in if (is_child kinds.member p r.kind r.parent) (r ∷ ms) ms

-- a struct has at least one member
abbrev pub any_member : List RowWords → Bool
any_member [] = false
any_member (m ∷ ms) = true

-- a mapping has exactly two, and the first shows a basic signature; a triple outside its buffer, or absent, shows nothing
abbrev pub keyed : List ℕ → List ℕ → List RowWords → Bool
keyed document text [] = false
keyed document text (k ∷ []) = false
keyed document text (k ∷ v ∷ []) = basic_signature (shown document text k.value)
keyed document text (k ∷ v ∷ m ∷ ms) = false

-- a definition of kind k has the members ms that it needs; other kinds need none
unfoldable pub counted : List ℕ → List ℕ → ℕ → List RowWords → Bool
counted document text k ms =
    let pair = keyed document text ms in
    if (eqb k kinds.struct) (any_member ms) (if (eqb k kinds.mapping) pair true)

-- row i of the rows
unfoldable pub sound_row : List ℕ → List ℕ → List RowWords → ℕ → RowWords → Bool
sound_row document text rows i r = good_row document text rows i r && counted document text r.kind (members_of (suc i) rows)

-- the first bad row from row i on, or the number of rows
abbrev pub first_bad : List ℕ → List ℕ → List RowWords → ℕ → List RowWords → ℕ
first_bad document text rows i [] = i
first_bad document text rows i (r ∷ rs) = let n = first_bad document text rows (suc i) rs in if (sound_row document text rows i r) n i

pub data Soundness : Type 0 where
  sound : Soundness
  unsound : ℕ → Soundness

abbrev pub judged : ℕ → ℕ → Soundness
judged n bad = if (ltb bad n) (unsound bad) sound

-- n rows are claimed: 262,144 if more are; else the rows held if fewer than claimed; else the first bad row
unfoldable pub soundness : List ℕ → List ℕ → List ℕ → ℕ → Soundness
soundness document text ws n =
    let held = length ws / 16 in
    let r = judged n (first_bad document text (rows_of n ws) 0 (rows_of n ws)) in
    if (ltb 262144 n) (unsound 262144) (if (ltb held n) (unsound held) r)
