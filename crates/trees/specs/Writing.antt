-- What writing a tree answers and leaves (docs/FORMAT.md, Answers), for the room lent.
use Rattle.std.specs.Prelude.{ℕ, suc, List, Bool, true, not, ◌&&◌, ◌||◌, eqb, leb, ltb, length, Result}
use Rattle.std.proofs.Math.Option.{Option, none, some}
use Rattle.faults.specs.declared.Fault.{Fault}
use Rattle.slices.specs.Bytes.{if, empty}
use Rattle.answers.specs.Text.{Text, text, wrong, roomy, Says}
use Rattle.document.specs.Kinds as kinds
use Rattle.document.specs.Elements.{among}
use Rattle.items.specs.Words.{rows_of}
use Rattle.items.specs.Sound.{kind_at, soundness}
use Rattle.items.specs.Writing.{checked}
use Rattle.trees.specs.Trees.{Tree, tree, Forest, bare, more}
use Rattle.trees.specs.Shape.{shape_at}
use Rattle.trees.specs.Written.{Element, element_at, tree_at, docstrings, written_tree}

-- whether something follows the attributes of an element
abbrev pub is_open : {A : Type 0} → Element → Forest A → Bool
is_open e bare = not (empty (docstrings e.doc))
is_open e (more t f) = true

abbrev pub is_open_node : {A : Type 0} → Element → Forest A → Bool
is_open_node e f = eqb e.kind kinds.node && is_open e f

abbrev pub first : Option ℕ → Option ℕ → Option ℕ
first none q = q
first (some p) q = some p

-- the first row, as written, that would be the 1,025th open node, where d nodes are open around it; e has what each row shows
abbrev mutual
  pub too_deep : (ℕ → Element) → ℕ → Tree ℕ → Option ℕ
  too_deep e d (tree i f) =
      let o = if (leb 1024 d) (some i) (too_deeps e (suc d) f) in
      if (is_open_node (e i) f) o (too_deeps e d f)

  pub too_deeps : (ℕ → Element) → ℕ → Forest ℕ → Option ℕ
  too_deeps e d bare = none
  too_deeps e d (more t f) = first (too_deep e d t) (too_deeps e d f)

-- 7 at that row; else 21 at the bytes needed
abbrev pub tree_written : ℕ → Option ℕ → Tree Element → Text
tree_written room none t = roomy room (text (written_tree t))
tree_written room (some p) t = wrong 7 p

-- there is such a row, and it is no part of a definition
abbrev pub is_writable : List ℕ → ℕ → ℕ → Bool
is_writable ws n i = ltb i n && not (among (kind_at (rows_of n ws) i) kinds.parts)

-- n rows are claimed, and row i is asked for: 2, 19, 20 at the row asked for, 7, 21
unfoldable pub tree_writing : List ℕ → List ℕ → List ℕ → ℕ → ℕ → ℕ → Text
tree_writing document x ws n i room =
    let t = tree_written room (too_deep (element_at document x ws) 0 (shape_at ws n i)) (tree_at document x ws n i) in
    let r = checked (soundness document x ws n) (if (is_writable ws n i) t (wrong 20 i)) in
    if (ltb 1048576 (length document) || ltb 1048576 (length x)) (wrong 2 1048576) r

-- what writing the tree of row i answers, and what it leaves in a buffer of that room
pub record WritesTree (document x ws : List ℕ) (n i room : ℕ) (out : List ℕ) (r : Result ℕ Fault) : Type 0 where
  pub says : Says (tree_writing document x ws n i room) room out r
