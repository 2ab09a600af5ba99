-- The written content of a row of a table: its children are all rows with that parent, in row order, also with others between.
use Rattle.std.specs.Prelude.{ℕ, zero, suc, List, [], ◌∷◌, eqb, drop}
use Rattle.std.proofs.Math.Option.{Option, none, some}
use Rattle.slices.specs.Bytes.{if}
use Rattle.document.specs.Kinds as kinds
use Rattle.document.specs.Rows as tables
use Rattle.items.specs.Words.{is_child, rows_shown}
use Rattle.items.specs.Written.{Annotation, Arg, Direction, no-direction, inward, outward, Member, Item, annotated, argument, method, signal}

-- a row with the bytes that it shows
abbrev pub Row : Type 0
Row = tables.Row (List ℕ)

abbrev pub present : Option (List ℕ) → List ℕ
present none = []
present (some s) = s

abbrev pub direction : ℕ → Direction
direction zero = no-direction
direction (suc zero) = inward
direction (suc (suc n)) = outward

abbrev pub annotation_of : Row → Annotation
annotation_of r = record { name = present r.name; value = present r.value }

abbrev pub annotations : ℕ → List Row → List Annotation
annotations p [] = []
annotations p (r ∷ rs) = let t = annotations p rs in if (is_child kinds.annotation p r.kind r.parent) (annotation_of r ∷ t) t

-- r is row i of the table t
abbrev pub arg_of : List Row → ℕ → Row → Arg
arg_of t i r = record { name = r.name; type = present r.value; direction = direction r.word; annotations = annotations (suc i) t }

-- of the rows from row i on
abbrev pub args : List Row → ℕ → ℕ → List Row → List Arg
args t p i [] = []
args t p i (r ∷ rs) = let u = args t p (suc i) rs in if (is_child kinds.arg p r.kind r.parent) (arg_of t i r ∷ u) u

abbrev pub member_of : List Row → ℕ → Row → Member
member_of t i r = record { name = present r.name; args = args t (suc i) 0 t; annotations = annotations (suc i) t }

abbrev pub item_of : List Row → ℕ → Row → Option Item
item_of t i r =
    if (eqb r.kind kinds.method) (some (method (member_of t i r)))
    (if (eqb r.kind kinds.signal) (some (signal (member_of t i r)))
    (if (eqb r.kind kinds.annotation) (some (annotated (annotation_of r)))
    (if (eqb r.kind kinds.arg) (some (argument (arg_of t i r))) none)))

abbrev pub first_item : List Row → ℕ → List Row → Option Item
first_item t i [] = none
first_item t i (r ∷ rs) = item_of t i r

-- the content of row i, if there is one and its kind is written
unfoldable pub content : List Row → ℕ → Option Item
content t i = first_item t i (drop i t)

-- of row i of the first n rows of a lent table
abbrev pub content_at : List ℕ → List ℕ → List ℕ → ℕ → ℕ → Option Item
content_at document text ws n i = content (rows_shown document text ws n) i
