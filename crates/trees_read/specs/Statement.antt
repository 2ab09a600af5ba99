-- A tree that was written is read back as itself.
use Rattle.std.specs.Prelude.{ℕ, ◌*◌, ◌/◌, ◌≤◌, ◌<◌, ◌≡◌, List, [], ◌++◌, true, length, drop}
use Rattle.std.proofs.Math.Option.{none}
use Rattle.answers.specs.Text.{text}
use Rattle.document.specs.Tags.{Shown}
use Rattle.document.specs.Rows.{Tables, words_from, texts}
use Rattle.document.specs.Reading.{accepted}
use Rattle.document.specs.Whole.{Room, read}
use Rattle.items.specs.Words.{triple_at, absent}
use Rattle.items.specs.Sound.{sound, soundness}
use Rattle.roundtrip.specs.Items.{name_values, referenced}
use Rattle.trees.specs.Trees.{Tree, tree, Forest, bare, more, size}
use Rattle.trees.specs.Shape.{shape_at}
use Rattle.trees.specs.Written.{Element, element_at, tree_at, written_tree}
use Rattle.trees.specs.Writing.{too_deep, tree_writing}

-- the attribute values that are written, but for accesses and directions, which are never written with a reference
abbrev pub values_of : Element → List (List ℕ)
values_of e = name_values e.name ++ (name_values e.value ++ name_values e.tp)

abbrev mutual
  pub values : Tree Element → List (List ℕ)
  values (tree e f) = values_of e ++ values_in f

  pub values_in : Forest Element → List (List ℕ)
  values_in bare = []
  values_in (more t f) = values t ++ values_in f

-- at most 1,048,576 bytes are written; there are as many rows as the tree has elements; any warnings; text room for the shown bytes of
-- each attribute value that is written with a reference
pub record Fits (t : Tree Element) (room : Room) : Type 0 where
  pub short : length (written_tree t) ≤ 1048576
  pub rows : size t ≤ room.rows / 16
  pub text : referenced (values t) ≤ room.text

-- the tree of the tables of a document; and what writing it answers
abbrev pub tree_of : List ℕ → Tables Shown → Tree Element
tree_of doc u = tree_at doc (texts u.rows) (words_from 0 u.rows) (length u.rows) 0

-- the bytes written are accepted, with no warning, as many rows as the tree has elements, and the bytes of text that its values need; the
-- tree of the tables is the same, so that each parent's children agree, kind by kind and in order; and it is written as the same bytes again
pub record ReadsBack (t : Tree Element) (room : Room) : Type 0 where
  pub tables : Tables Shown
  pub accepts : read (written_tree t) room ≡ accepted tables
  pub silent : tables.warnings ≡ []
  pub rows : length tables.rows ≡ size t
  pub bytes : length (texts tables.rows) ≡ referenced (values t)
  pub same : tree_of (written_tree t) tables ≡ t
  pub again : (lent : ℕ) → length (written_tree t) ≤ lent → tree_writing (written_tree t) (texts tables.rows) (words_from 0 tables.rows) (length tables.rows) 0 lent ≡ text (written_tree t)

-- A. for the tables of every document that is accepted: no node is too deep, and the tree of row 0 reads back
abbrev pub ReaderTrees : Type 0
ReaderTrees =
    (doc : List ℕ) (room : Room) (u : Tables Shown) →
    read doc room ≡ accepted u →
    (too_deep (element_at doc (texts u.rows) (words_from 0 u.rows)) 0 (shape_at (words_from 0 u.rows) (length u.rows) 0) ≡ none)
    × ((lent : Room) → Fits (tree_of doc u) lent → ReadsBack (tree_of doc u) lent)

-- no docstring: words 11 to 13 of each row are zero
abbrev pub NoDocstrings : List ℕ → ℕ → Type 0
NoDocstrings ws n = (i : ℕ) → i < n → absent (triple_at 11 (drop (i * 16) ws)) ≡ true

-- B. for sound rows from elsewhere that hold no docstring, and of which no node is too deep
abbrev pub SoundTrees : Type 0
SoundTrees =
    (document text ws : List ℕ) (n : ℕ) →
    soundness document text ws n ≡ sound →
    0 < n →
    NoDocstrings ws n →
    too_deep (element_at document text ws) 0 (shape_at ws n 0) ≡ none →
    (lent : Room) →
    Fits (tree_at document text ws n 0) lent →
    ReadsBack (tree_at document text ws n 0) lent

-- a tree has at most as many elements as there are rows, so room for the claimed rows is enough
abbrev pub TreeRows : Type 0
TreeRows = (document text ws : List ℕ) (n : ℕ) → 0 < n → size (tree_at document text ws n 0) ≤ n
