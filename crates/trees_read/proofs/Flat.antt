-- The rows that a written tree is read as, and how many they are.
use Prim.Native.Nat.{ℕ, suc, ◌+◌}
use native.Mathlib.Omega.{arith}
use mathlib.Core.Path.{◌≡◌, refl, ap}
use mathlib.Core.List.{List, [], ◌∷◌, ◌++◌}
use mathlib.Core.Option.{Option, none, some}
use mathlib.Core.Bool.{false}
use lib.ListN.{length, length-append}
use Rattle.document.specs.Rows.{Doc}
use Rattle.items.specs.Content.{Row}
use Rattle.items.specs.Written.{tag, concat}
use Rattle.trees.specs.Trees.{Tree, tree, Forest, bare, more, size, sizes}
use Rattle.trees.specs.Written.{Element, tag_of, attributes, doc_tag, docstrings, written_tree}

-- where the content of an element that begins at a place stands: after its start tag; and its docstring
abbrev pub content_at : ℕ → Element → ℕ
content_at at e = at + length (tag (tag_of e.kind) (attributes e) false)

abbrev pub doc_at : ℕ → Option (List ℕ) → Option Doc
doc_at at none = none
doc_at at (some s) = some (record { start = at + length (tag doc_tag [] false); len = length s })

-- the row of an element that begins at a place; p is the parent's row plus one
abbrev pub row_for : ℕ → ℕ → Element → Row
row_for p at e = record {
  kind = e.kind;
  parent = p;
  name = e.name;
  value = e.value;
  tp = e.tp;
  doc = doc_at (content_at at e) e.doc;
  word = e.word;
  at = 0;
}

-- and of all under it; i is the number of the first row
abbrev mutual
  pub flat : ℕ → ℕ → ℕ → Tree Element → List Row
  flat p i at (tree e f) = row_for p at e ∷ flats (suc i) (suc i) (content_at at e + length (concat (docstrings e.doc))) f

  pub flats : ℕ → ℕ → ℕ → Forest Element → List Row
  flats p i at bare = []
  flats p i at (more t f) = flat p i at t ++ flats p (i + size t) (at + length (written_tree t)) f

mutual
  pub length_flat : (p i at : ℕ) (t : Tree Element) → length (flat p i at t) ≡ size t
  length_flat p i at (tree e f) = ap suc (length_flats (suc i) (suc i) (content_at at e + length (concat (docstrings e.doc))) f)

  pub length_flats : (p i at : ℕ) (f : Forest Element) → length (flats p i at f) ≡ sizes f
  length_flats p i at bare = refl
  length_flats p i at (more t f) =
      let k = i + size t in
      let b = at + length (written_tree t) in
      omega (arith, length-append (flat p i at t) (flats p k b f), length_flat p i at t, length_flats p k b f)
