-- How many bytes of text the rows of a written item take.
use Prim.Native.Nat.{ℕ, suc, ◌+◌}
use native.Mathlib.Omega.{arith}
use mathlib.Core.Path.{◌≡◌, refl}
use mathlib.Core.List.{List, [], ◌∷◌, ◌++◌, map}
use mathlib.Core.Option.{Option, none, some}
use mathlib.Core.Bool.{Bool, true, false}
use borrow.Author.Tests.{eq-eqb}
use lib.ListN.{length, length-append}
use Rattle.slices.specs.Bytes.{if, all, same}
use Rattle.slices.proofs.Runs.{same_short, same_self}
use Rattle.references.specs.Escape.{escape}
use Rattle.references.specs.Unescape.{plain}
use Rattle.references.proofs.Escapes.{by_escape, escape_least}
use Rattle.references.proofs.RoundTrip.{same_plain}
use Rattle.document.specs.Tags.{Shown}
use Rattle.document.specs.Rows as tables
use Rattle.document.specs.Rows.{text_of, row_text, texts}
use Rattle.items.specs.View.{over, view_row}
use Rattle.items.specs.Written.{Annotation, Arg, Member, Item, annotated, argument, method, signal}
use Rattle.items.specs.Content as shown
use Rattle.roundtrip.specs.Items.{annotation_rows, arg_rows, args_rows, member_rows, rows, node_row, interface_row, note_values, name_values, arg_values, args_values, member_values, values, referenced}
use Rattle.roundtrip.proofs.Held.{Held, held, mark, Row, marked}

-- ---- by what is held of an attribute

abbrev size_of : Option Held → ℕ
size_of none = 0
size_of (some h) = if (all plain h.raw) 0 (length h.value)

abbrev row_size : Row → ℕ
row_size r = size_of r.name + size_of r.value + size_of r.tp

abbrev pub sizes : List Row → ℕ
sizes [] = 0
sizes (r ∷ rs) = row_size r + sizes rs

size_text : (o : Option Shown) → length (text_of o) ≡ size_of (over held o)
size_text none = refl
size_text (some s) = go (all plain s.attr.raw)
  where
    go : (b : Bool) → length (if b [] s.value) ≡ if b 0 (length s.value)
    go true = refl
    go false = refl

pub texts_size : (rs : List (tables.Row Shown)) → length (texts rs) ≡ sizes (map (view_row held) rs)
texts_size [] = refl
texts_size (r ∷ rs) =
    let a = length-append (text_of r.name ++ text_of r.value) (text_of r.tp) in
    let b = length-append (text_of r.name) (text_of r.value) in
    omega (arith, length-append (row_text r) (texts rs), a, b, size_text r.name, size_text r.value, size_text r.tp, texts_size rs)

-- ---- a text is written without a reference exactly if escaping leaves it

plain_escape : (v : List ℕ) → all plain (escape v) ≡ same (escape v) v
unfolding escape
plain_escape [] = refl
plain_escape (b ∷ s) =
    by_escape (λ x e. all plain (e ++ escape s) ≡ same (e ++ escape s) (x ∷ s)) b
    (same_short (97 ∷ 109 ∷ 112 ∷ 59 ∷ escape s) s (λ e. omega (arith, escape_least s)))
    refl refl refl refl refl refl refl
    (λ h. rw (same_plain b h, eq-eqb b b refl) (plain_escape s))

-- ---- by the texts that rows show

abbrev measure : List ℕ → ℕ
measure v = if (same (escape v) v) 0 (length v)

abbrev measure_of : Option (List ℕ) → ℕ
measure_of none = 0
measure_of (some v) = measure v

abbrev measures : List shown.Row → ℕ
measures [] = 0
measures (r ∷ rs) = measure_of r.name + measure_of r.value + measure_of r.tp + measures rs

size_marked : (o : Option (List ℕ)) → size_of (over mark o) ≡ measure_of o
size_marked none = refl
size_marked (some v) = rw plain_escape

marked_size : (rs : List shown.Row) → sizes (map marked rs) ≡ measures rs
marked_size [] = refl
marked_size (r ∷ rs) = omega (arith, size_marked r.name, size_marked r.value, size_marked r.tp, marked_size rs)

measures_append : (rs ss : List shown.Row) → measures (rs ++ ss) ≡ measures rs + measures ss
measures_append [] ss = omega arith
measures_append (r ∷ rs) ss = omega (arith, measures_append rs ss)

pub referenced_append : (vs us : List (List ℕ)) → referenced (vs ++ us) ≡ referenced vs + referenced us
referenced_append [] us = omega arith
referenced_append (v ∷ vs) us = omega (arith, referenced_append vs us)

notes_measure : (p : ℕ) (xs : List Annotation) → measures (annotation_rows p xs) ≡ referenced (note_values xs)
notes_measure p [] = refl
notes_measure p (a ∷ xs) = omega (arith, notes_measure p xs)

name_measure : (o : Option (List ℕ)) → measure_of o ≡ referenced (name_values o)
name_measure none = refl
name_measure (some n) = omega arith

arg_measure : (p i : ℕ) (a : Arg) → measures (arg_rows p i a) ≡ referenced (arg_values a)
arg_measure p i a =
    omega (arith, referenced_append (name_values a.name) (a.type ∷ note_values a.annotations), name_measure a.name, notes_measure (suc i) a.annotations)

args_measure : (p i : ℕ) (xs : List Arg) → measures (args_rows p i xs) ≡ referenced (args_values xs)
args_measure p i [] = refl
args_measure p i (a ∷ xs) =
    omega
    (arith, measures_append (arg_rows p i a) (args_rows p (i + length (arg_rows p i a)) xs), referenced_append (arg_values a) (args_values xs), arg_measure p i a, args_measure p (i + length (arg_rows p i a)) xs)

member_measure : (k p i : ℕ) (m : Member) → measures (member_rows k p i m) ≡ referenced (member_values m)
member_measure k p i m =
    omega
    (arith, measures_append (args_rows (suc i) (suc i) m.args) (annotation_rows (suc i) m.annotations), referenced_append (args_values m.args) (note_values m.annotations), args_measure (suc i) (suc i) m.args, notes_measure (suc i) m.annotations)

item_measure : (p i : ℕ) (c : Item) → measures (rows p i c) ≡ referenced (values c)
item_measure p i (annotated a) = notes_measure p (a ∷ [])
item_measure p i (argument a) = arg_measure p i a
item_measure p i (method m) = member_measure 3 p i m
item_measure p i (signal m) = member_measure 5 p i m

-- the text that the table of the document takes which holds an item
pub table_size : (n : List ℕ) (c : Item) → escape n ≡ n → sizes (map marked (node_row ∷ interface_row n ∷ rows 2 2 c)) ≡ referenced (values c)
table_size n c e =
    let z : measure n ≡ 0 = rw (e, same_self n) in
    omega (arith, marked_size (node_row ∷ interface_row n ∷ rows 2 2 c), item_measure 2 2 c, z)
