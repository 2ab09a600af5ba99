-- What the elements of a tree show, and their bytes (docs/FORMAT.md, Trees).
use Rattle.std.specs.Prelude.{ℕ, List, [], ◌∷◌, ◌++◌, false, eqb, take, drop}
use Rattle.std.proofs.Math.Option.{Option, none, some}
use Rattle.slices.specs.Bytes.{if, bytes}
use Rattle.document.specs.Kinds as kinds
use Rattle.document.specs.Rows.{Doc}
use Rattle.document.specs.Elements.{among}
use Rattle.items.specs.Words.{shown_row}
use Rattle.items.specs.View.{over}
use Rattle.items.specs.Content.{Row}
use Rattle.items.specs.Written.{Pair, tag, closing_tag, element}
use Rattle.trees.specs.Trees.{Tree, tree, Forest, bare, more, map_tree}
use Rattle.trees.specs.Shape.{shape_at}

-- the content of a row: its kind, the bytes of each triple or its absence, word 14
pub record Element : Type 0 where
  pub kind : ℕ
  pub name : Option (List ℕ)
  pub value : Option (List ℕ)
  pub tp : Option (List ℕ)
  pub doc : Option (List ℕ)
  pub word : ℕ

-- the bytes of a docstring
abbrev pub docstring : List ℕ → Doc → List ℕ
docstring document d = take d.len (drop d.start document)

abbrev pub element_of : List ℕ → Row → Element
element_of document r = record {
  kind = r.kind;
  name = r.name;
  value = r.value;
  tp = r.tp;
  doc = over (docstring document) r.doc;
  word = r.word;
}

-- row i of a table
abbrev pub element_at : List ℕ → List ℕ → List ℕ → ℕ → Element
element_at document text ws i = element_of document (shown_row document text ws i)

-- the content of row i of n rows and of all under it
abbrev pub tree_at : List ℕ → List ℕ → List ℕ → ℕ → ℕ → Tree Element
tree_at document text ws n i = map_tree (element_at document text ws) (shape_at ws n i)

-- tags by kind, `tp:` before kinds 8 to 13
unfoldable pub tag_of : ℕ → List ℕ
tag_of k =
    if (eqb k kinds.node) (bytes "node")
    (if (eqb k kinds.interface) (bytes "interface")
    (if (eqb k kinds.method) (bytes "method")
    (if (eqb k kinds.property) (bytes "property")
    (if (eqb k kinds.signal) (bytes "signal")
    (if (eqb k kinds.annotation) (bytes "annotation")
    (if (eqb k kinds.arg) (bytes "arg")
    (if (eqb k kinds.simple_type) (bytes "tp:simple-type")
    (if (eqb k kinds.enum) (bytes "tp:enum")
    (if (eqb k kinds.enumvalue) (bytes "tp:enumvalue")
    (if (eqb k kinds.struct) (bytes "tp:struct")
    (if (eqb k kinds.member) (bytes "tp:member") (bytes "tp:mapping"))))))))))))

-- an attribute, if its value is there
abbrev pub given : List ℕ → Option (List ℕ) → List Pair
given k none = []
given k (some v) = record { key = k; value = v } ∷ []

-- words 2-4, 5-7, 8-10
abbrev pub name_key : ℕ → List ℕ
name_key k = if (eqb k kinds.enumvalue) (bytes "suffix") (bytes "name")

abbrev pub value_key : ℕ → List ℕ
value_key k = if (among k (kinds.annotation ∷ kinds.enumvalue ∷ [])) (bytes "value") (bytes "type")

abbrev pub tp_key : List ℕ
tp_key = bytes "tp:type"

-- word 14 of a property, of an arg
abbrev pub access_text : ℕ → Option (List ℕ)
access_text w =
    if (eqb w 1) (some (bytes "read")) (if (eqb w 2) (some (bytes "write")) (if (eqb w 3) (some (bytes "readwrite")) none))

abbrev pub direction_text : ℕ → Option (List ℕ)
direction_text w = if (eqb w 1) (some (bytes "in")) (if (eqb w 2) (some (bytes "out")) none)

abbrev pub word_pairs : ℕ → ℕ → List Pair
word_pairs k w =
    if (eqb k kinds.property) (given (bytes "access") (access_text w))
    (if (eqb k kinds.arg) (given (bytes "direction") (direction_text w)) [])

-- in word order
abbrev pub attributes : Element → List Pair
attributes e =
    given (name_key e.kind) e.name ++ (given (value_key e.kind) e.value ++ (given tp_key e.tp ++ word_pairs e.kind e.word))

-- the docstring as it is, unless it is empty: nothing in it is escaped, so that markup in it is markup to whoever reads the bytes
abbrev pub doc_tag : List ℕ
doc_tag = bytes "tp:docstring"

abbrev pub docstrings : Option (List ℕ) → List (List ℕ)
docstrings none = []
docstrings (some []) = []
docstrings (some (b ∷ s)) = (tag doc_tag [] false ++ ((b ∷ s) ++ closing_tag doc_tag)) ∷ []

-- the start tag, the docstring and what stands in the element; `/>` if nothing follows the attributes
abbrev mutual
  pub written_tree : Tree Element → List ℕ
  written_tree (tree e f) = element (tag_of e.kind) (attributes e) (docstrings e.doc ++ written_forest f)

  pub written_forest : Forest Element → List (List ℕ)
  written_forest bare = []
  written_forest (more t f) = written_tree t ∷ written_forest f
