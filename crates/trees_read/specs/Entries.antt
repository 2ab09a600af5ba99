-- The same of the code: in the records that the contracts of `write_tree` and of the reader cite.
use Rattle.std.specs.Prelude.{ℕ, ◌≤◌, ◌<◌, ◌≡◌, List, length, take, Ok, Result, Err}
use Rattle.faults.specs.declared.Fault.{Fault}
use Rattle.faults.specs.Fault.{fault}
use Rattle.document.specs.Whole.{Room, Says}
use Rattle.document.specs.Verdict.{Verdict, counts}
use Rattle.roundtrip.specs.Items.{referenced}
use Rattle.trees.specs.Trees.{Tree, size}
use Rattle.trees.specs.Written.{Element, tree_at, written_tree}
use Rattle.trees.specs.Writing.{WritesTree}
use Rattle.trees_read.specs.Statement.{values, Fits, NoDocstrings}

-- the verdict on a document, with no warning, and the tree of the rows left, whatever room the buffers have
pub record Returns (doc rows text : List ℕ) (t : Tree Element) (v : Verdict) : Type 0 where
  pub verdict : v ≡ Ok (counts (size t) (referenced (values t)) 0)
  pub same : tree_at doc text rows (size t) 0 ≡ t

-- whatever room for it is lent, the reader returns that tree for a document
abbrev pub ReturnsFrom : List ℕ → Tree Element → Type 0
ReturnsFrom doc t =
    (rows warnings text : List ℕ) (lent : Room) (v : Verdict) → Fits t lent → Says doc lent rows warnings text v → Returns doc rows text t v

-- what writing a tree answers with so much room: all its bytes, which are read back; or 21 at the bytes needed, and nothing else
pub record Writable (t : Tree Element) (room : ℕ) (out : List ℕ) (r : Result ℕ Fault) : Type 0 where
  pub done : length (written_tree t) ≤ room → r ≡ Ok (length (written_tree t))
  pub short : room < length (written_tree t) → r ≡ Err (fault 21 (length (written_tree t)))
  pub left : length (written_tree t) ≤ room → take (length (written_tree t)) out ≡ written_tree t
  pub returns : length (written_tree t) ≤ room → ReturnsFrom (take (length (written_tree t)) out) t

-- A. whatever the reader accepted: the rows, text and document that it leaves, handed on to `write_tree`, are written and read back; the
-- text lent to the reader is within the limit of `write_tree`
abbrev pub ReaderEntries : Type 0
ReaderEntries =
    (doc rows warnings text : List ℕ) (lent : Room) (n x w : ℕ) →
    Says doc lent rows warnings text (Ok (counts n x w)) →
    length text ≤ 1048576 →
    (room : ℕ) (out : List ℕ) (r : Result ℕ Fault) →
    WritesTree doc text rows n 0 room out r →
    Writable (tree_at doc text rows n 0) room out r

-- B. whatever was handed to `write_tree` for row 0, with no docstring: if it wrote m bytes, they are read back
abbrev pub SoundEntries : Type 0
SoundEntries =
    (document text ws out : List ℕ) (n room m : ℕ) →
    WritesTree document text ws n 0 room out (Ok m) →
    NoDocstrings ws n →
    (take m out ≡ written_tree (tree_at document text ws n 0)) × ReturnsFrom (take m out) (tree_at document text ws n 0)
