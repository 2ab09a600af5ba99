-- The rows that an item is read as, how many they are, and the text that they take.
use Rattle.std.specs.Prelude.{ℕ, suc, ◌+◌, List, [], ◌∷◌, ◌++◌, map, length}
use Rattle.std.proofs.Math.Option.{Option, none, some}
use Rattle.slices.specs.Bytes.{if, same}
use Rattle.references.specs.Escape.{escape}
use Rattle.document.specs.Kinds as kinds
use Rattle.items.specs.Written.{Annotation, Arg, Direction, no-direction, inward, outward, Member, Item, annotated, argument, method, signal}
use Rattle.items.specs.Content.{Row}

abbrev pub code : Direction → ℕ
code no-direction = 0
code inward = 1
code outward = 2

abbrev pub bare_row : ℕ → ℕ → Option (List ℕ) → Option (List ℕ) → ℕ → Row
bare_row k p n v w = record { kind = k; parent = p; name = n; value = v; tp = none; doc = none; word = w; at = 0 }

-- p is the parent's row plus one, and i the number of the first row
abbrev pub annotation_row : ℕ → Annotation → Row
annotation_row p a = bare_row kinds.annotation p (some a.name) (some a.value) 0

abbrev pub annotation_rows : ℕ → List Annotation → List Row
annotation_rows p xs = map (annotation_row p) xs

abbrev pub arg_row : ℕ → Arg → Row
arg_row p a = bare_row kinds.arg p a.name (some a.type) (code a.direction)

abbrev pub arg_rows : ℕ → ℕ → Arg → List Row
arg_rows p i a = arg_row p a ∷ annotation_rows (suc i) a.annotations

abbrev pub args_rows : ℕ → ℕ → List Arg → List Row
args_rows p i [] = []
args_rows p i (a ∷ xs) = arg_rows p i a ++ args_rows p (i + length (arg_rows p i a)) xs

abbrev pub member_rows : ℕ → ℕ → ℕ → Member → List Row
member_rows k p i m =
    bare_row k p (some m.name) none 0 ∷ args_rows (suc i) (suc i) m.args ++ annotation_rows (suc i) m.annotations

-- the rows of an item and of all under it
abbrev pub rows : ℕ → ℕ → Item → List Row
rows p i (annotated a) = annotation_row p a ∷ []
rows p i (argument a) = arg_rows p i a
rows p i (method m) = member_rows kinds.method p i m
rows p i (signal m) = member_rows kinds.signal p i m

-- a node without a name; an interface in it
abbrev pub node_row : Row
node_row = bare_row kinds.node 0 none none 0

abbrev pub interface_row : List ℕ → Row
interface_row n = bare_row kinds.interface 1 (some n) none 0

-- the attribute values that are written, but for directions, which are never written with a reference
abbrev pub note_values : List Annotation → List (List ℕ)
note_values [] = []
note_values (a ∷ xs) = a.name ∷ a.value ∷ note_values xs

abbrev pub name_values : Option (List ℕ) → List (List ℕ)
name_values none = []
name_values (some n) = n ∷ []

abbrev pub arg_values : Arg → List (List ℕ)
arg_values a = name_values a.name ++ (a.type ∷ note_values a.annotations)

abbrev pub args_values : List Arg → List (List ℕ)
args_values [] = []
args_values (a ∷ xs) = arg_values a ++ args_values xs

abbrev pub member_values : Member → List (List ℕ)
member_values m = m.name ∷ args_values m.args ++ note_values m.annotations

abbrev pub values : Item → List (List ℕ)
values (annotated a) = note_values (a ∷ [])
values (argument a) = arg_values a
values (method m) = member_values m
values (signal m) = member_values m

-- how many bytes are shown by the values that are written with a reference
abbrev pub referenced : List (List ℕ) → ℕ
referenced [] = 0
referenced (v ∷ vs) = if (same (escape v) v) 0 (length v) + referenced vs
