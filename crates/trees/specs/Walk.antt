-- What the functions that walk over a tree need and say: d is the document, x the text, ws the words of the rows, of which n are claimed.
use Rattle.std.specs.Prelude.{ℕ, zero, suc, ◌+◌, ◌-◌, ◌*◌, ◌≤◌, ◌<◌, ◌^◌, ◌≡◌, List, [], ◌++◌, Bool, true, false, eqb, length, drop, Result, Ok, Err}
use Rattle.std.proofs.Math.Option.{Option, none, some}
use Rattle.faults.specs.declared.Fault.{Fault}
use Rattle.slices.specs.Bytes.{if, bytes}
use Rattle.tables.specs.Table.{Rep}
use Rattle.answers.specs.Puts.{Puts}
use Rattle.answers.specs.Text.{Says, wrong}
use Rattle.document.specs.Kinds as kinds
use Rattle.document.specs.Elements.{among}
use Rattle.items.specs.Words.{word_at}
use Rattle.items.specs.Written.{closing_tag, concat}
use Rattle.trees.specs.Trees.{Tree, tree, Forest, bare, joined, map_tree, map_forest, sizes}
use Rattle.trees.specs.Shape.{Link, links_of, forest, under, shape_at}
use Rattle.trees.specs.Written.{element_at, tree_at, tag_of, docstrings, written_tree, written_forest}
use Rattle.trees.specs.Writing.{is_open, first, too_deep, too_deeps, is_writable, tree_written}
use Rattle.trees.specs.Steps.{group_kinds, group_of}
use Rattle.trees.specs.declared.children.Standing.{Standing}
use Rattle.trees.specs.declared.walk.Walk.{Walk}
use Rattle.trees.specs.declared.walk.Start.{Start}
use Rattle.trees.specs.declared.walk.Start.TheVariants.{Closed, Opened}
use Rattle.std.specs.declared.ops.ControlFlow.{ControlFlow}
use Rattle.std.specs.declared.ops.ControlFlow.TheVariants.{Continue, Break}

-- the children of row i in a group from a row on, with all under them; those of the groups after it; both
abbrev pub seek : List Link → ℕ → ℕ → ℕ → Forest ℕ
seek rs g i from = forest (group_kinds g) (suc i) from (drop from rs)

abbrev pub later : List Link → ℕ → ℕ → Forest ℕ
later rs zero i = joined (seek rs 1 i (suc i)) (joined (seek rs 2 i (suc i)) (joined (seek rs 3 i (suc i)) (seek rs 4 i (suc i))))
later rs (suc zero) i = joined (seek rs 2 i (suc i)) (joined (seek rs 3 i (suc i)) (seek rs 4 i (suc i)))
later rs (suc (suc zero)) i = joined (seek rs 3 i (suc i)) (seek rs 4 i (suc i))
later rs (suc (suc (suc zero))) i = seek rs 4 i (suc i)
later rs (suc (suc (suc (suc g)))) i = bare

unfoldable pub rest : List Link → ℕ → ℕ → ℕ → Forest ℕ
rest rs g i from = joined (seek rs g i from) (later rs g i)

-- the bytes of trees of rows
abbrev pub bytes_of : List ℕ → List ℕ → List ℕ → Tree ℕ → List ℕ
bytes_of d x ws t = written_tree (map_tree (element_at d x ws) t)

abbrev pub bytes_in : List ℕ → List ℕ → List ℕ → Forest ℕ → List ℕ
bytes_in d x ws f = concat (written_forest (map_forest (element_at d x ws) f))

-- how many nodes are open inside an element of a kind where o are around it
abbrev pub inside_of : ℕ → ℕ → ℕ
inside_of k o = if (eqb k kinds.node) (suc o) o

-- whether something follows the attributes of row i
pub record OpenIs (d x ws : List ℕ) (n i : ℕ) (r : Bool) : Type 0 where
  pub is : r ≡ is_open (element_at d x ws i) (under i (links_of n ws))

-- whether a row of a kind would be the 1,025th open node
pub record IsDeep (kind o : ℕ) (r : Bool) : Type 0 where
  pub deep : r ≡ true → (kind ≡ kinds.node) × (1024 ≤ o)
  pub shallow : r ≡ false → kind ≡ kinds.node → o < 1024

-- an open node is among the open nodes; how many are open around an element of a kind
pub record AmongOpen (kind o : ℕ) : Type 0 where
  pub some : kind ≡ kinds.node → 0 < o

pub record IsAround (kind o r : ℕ) : Type 0 where
  pub is : (a : ℕ) → o ≡ inside_of kind a → r ≡ a

-- after row i is closed the search goes on in its parent: in document order from the row where the search in row i ended
pub record Resumes (s : Standing) (i end r : ℕ) : Type 0 where
  pub ordered : s.ordered ≡ true → r ≡ end
  pub other : s.ordered ≡ false → r ≡ suc i

-- what row i is from the end of its start tag up to its first child
pub record OpenedPut (d x ws : List ℕ) (i o put : ℕ) (t t' : List ℕ) (r : ℕ) : Type 0 where
  pub shallow : word_at ws i 0 ≡ kinds.node → o < 1024
  pub puts : Puts (bytes ">" ++ concat (docstrings (element_at d x ws i).doc)) put t t' r
  pub most : r ≤ put + 1048641

pub record DeepNode (ws : List ℕ) (i o k : ℕ) : Type 0 where
  pub row : k ≡ i
  pub node : word_at ws i 0 ≡ kinds.node
  pub deep : 1024 ≤ o

abbrev pub OpensIs : List ℕ → List ℕ → List ℕ → ℕ → ℕ → ℕ → List ℕ → List ℕ → Result ℕ ℕ → Type 0
OpensIs d x ws i o put t t' (Ok r) = OpenedPut d x ws i o put t t' r
OpensIs d x ws i o put t t' (Err k) = DeepNode ws i o k

pub record Opens (d x ws : List ℕ) (i o put : ℕ) (t t' : List ℕ) (r : Result ℕ ℕ) : Type 0 where
  pub is : OpensIs d x ws i o put t t' r

-- row i is closed at once, or it is open, or it is too deep where o nodes are open
pub record ClosedPut (d x ws : List ℕ) (n i put : ℕ) (t t' : List ℕ) (r : ℕ) : Type 0 where
  pub closed : is_open (element_at d x ws i) (under i (links_of n ws)) ≡ false
  pub puts : Puts (bytes_of d x ws (tree i (under i (links_of n ws)))) put t t' r
  pub most : r ≤ put + 33554432

pub record OpenPut (d x ws : List ℕ) (n i o put : ℕ) (t t' : List ℕ) (r : ℕ) : Type 0 where
  pub opens : is_open (element_at d x ws i) (under i (links_of n ws)) ≡ true
  pub shallow : word_at ws i 0 ≡ kinds.node → o < 1024
  pub begun : List ℕ
  pub puts : Puts begun put t t' r
  pub is : bytes_of d x ws (tree i (under i (links_of n ws))) ≡ begun ++ (bytes_in d x ws (under i (links_of n ws)) ++ closing_tag (tag_of (word_at ws i 0)))
  pub most : r ≤ put + 33554432

pub record DeepAt (d x ws : List ℕ) (n i o k : ℕ) : Type 0 where
  pub row : k ≡ i
  pub opens : is_open (element_at d x ws i) (under i (links_of n ws)) ≡ true
  pub node : word_at ws i 0 ≡ kinds.node
  pub deep : 1024 ≤ o

abbrev pub StartIs : List ℕ → List ℕ → List ℕ → ℕ → ℕ → ℕ → ℕ → List ℕ → List ℕ → Start → Type 0
StartIs d x ws n i o put t t' (Closed r) = ClosedPut d x ws n i put t t' r
StartIs d x ws n i o put t t' (Opened r) = OpenPut d x ws n i o put t t' r

abbrev pub BeginIs : List ℕ → List ℕ → List ℕ → ℕ → ℕ → ℕ → ℕ → List ℕ → List ℕ → Result Start ℕ → Type 0
BeginIs d x ws n i o put t t' (Ok z) = StartIs d x ws n i o put t t' z
BeginIs d x ws n i o put t t' (Err k) = DeepAt d x ws n i o k

pub record Begins (d x ws : List ℕ) (n i o put : ℕ) (t t' : List ℕ) (r : Result Start ℕ) : Type 0 where
  pub is : BeginIs d x ws n i o put t t' r

-- what is left to do after row i is closed, inside of which o nodes are open: the bytes, the first row too deep, the turns
pub data Above (d x ws : List ℕ) (n top : ℕ) (s : Standing) : ℕ → ℕ → List ℕ → Option ℕ → ℕ → Type 0 where
  at_top : {i o turns : ℕ} {after : List ℕ} {deep : Option ℕ} →
      i ≡ top →
      o ≡ inside_of (word_at ws top 0) 0 →
      after ≡ [] →
      deep ≡ none →
      Above d x ws n top s i o after deep turns
  up : {i o turns : ℕ} {after : List ℕ} {deep : Option ℕ} {p a left : ℕ} {end : List ℕ} {next : Option ℕ} →
      top < i →
      word_at ws i 1 ≡ suc p →
      a ≤ 1024 →
      o ≡ inside_of (word_at ws i 0) a →
      after ≡ bytes_in d x ws (rest (links_of n ws) (group_of (word_at ws i 0)) p (suc i)) ++ (closing_tag (tag_of (word_at ws p 0)) ++ end) →
      deep ≡ first (too_deeps (element_at d x ws) a (rest (links_of n ws) (group_of (word_at ws i 0)) p (suc i))) next →
      6 * sizes (rest (links_of n ws) (group_of (word_at ws i 0)) p (suc i)) + (5 - group_of (word_at ws i 0)) + left ≤ turns →
      (s.ordered ≡ true → (m : ℕ) → p < m → m < suc i → p < word_at ws m 1) →
      Above d x ws n top s p a end next left →
      Above d x ws n top s i o after deep turns

-- in a row children of a group are sought from a row on: what is put, and what is left
pub record Walking (d x ws : List ℕ) (n top : ℕ) (s : Standing) (w : Walk) (out : List ℕ) : Type 0 where
  pub within : w.row < n
  pub after : w.row < w.from
  pub onward : w.from ≤ n
  pub group : w.group < 5
  pub few : w.nodes ≤ 1024
  pub tail : List ℕ
  pub next : Option ℕ
  pub turns : ℕ
  pub above : Above d x ws n top s w.row w.nodes tail next turns
  pub passed : s.ordered ≡ true → (m : ℕ) → w.row < m → m < w.from → w.row < word_at ws m 1
  pub done : List ℕ
  pub stands : Rep 1 out w.put done
  pub whole :
      written_tree (tree_at d x ws n top)
      ≡ done ++ (bytes_in d x ws (rest (links_of n ws) w.group w.row w.from) ++ (closing_tag (tag_of (word_at ws w.row 0)) ++ tail))
  pub deep :
      too_deep (element_at d x ws) 0 (shape_at ws n top)
      ≡ first (too_deeps (element_at d x ws) w.nodes (rest (links_of n ws) w.group w.row w.from)) next
  pub enough : 6 * sizes (rest (links_of n ws) w.group w.row w.from) + (5 - w.group) + turns ≤ w.left
  pub room : w.put + w.left * 33554432 ≤ 2 ^ 60

-- what entering a child needs of a walk: a turn is left, few nodes are open, and there is room to count
pub record Going (w : Walk) : Type 0 where
  pub left : 0 < w.left
  pub few : w.nodes ≤ 1024
  pub room : w.put ≤ 2 ^ 60

-- row `top` is open, and nothing is around it
pub record TopOpen (d x ws : List ℕ) (n top : ℕ) (put : ℕ) (out : List ℕ) : Type 0 where
  pub within : top < n
  pub opens : is_open (element_at d x ws top) (under top (links_of n ws)) ≡ true
  pub begun : List ℕ
  pub stands : Rep 1 out put begun
  pub is : bytes_of d x ws (tree top (under top (links_of n ws))) ≡ begun ++ (bytes_in d x ws (under top (links_of n ws)) ++ closing_tag (tag_of (word_at ws top 0)))
  pub most : put ≤ 33554432

-- the walk has come to its end
pub record AllPut (d x ws : List ℕ) (n top : ℕ) (out : List ℕ) (r : ℕ) : Type 0 where
  pub stands : Rep 1 out r (written_tree (tree_at d x ws n top))
  pub shallow : too_deep (element_at d x ws) 0 (shape_at ws n top) ≡ none

pub record DeepRow (d x ws : List ℕ) (n top k : ℕ) : Type 0 where
  pub is : too_deep (element_at d x ws) 0 (shape_at ws n top) ≡ some k

abbrev pub WalkedIs : List ℕ → List ℕ → List ℕ → ℕ → ℕ → List ℕ → Result ℕ ℕ → Type 0
WalkedIs d x ws n top out (Ok r) = AllPut d x ws n top out r
WalkedIs d x ws n top out (Err k) = DeepRow d x ws n top k

pub record Walks (d x ws : List ℕ) (n top : ℕ) (out : List ℕ) (r : Result ℕ ℕ) : Type 0 where
  pub is : WalkedIs d x ws n top out r

-- the walk goes on
pub record Goes (d x ws : List ℕ) (n top : ℕ) (s : Standing) (w : Walk) (out : List ℕ) (w' : Walk) : Type 0 where
  pub walks : Walking d x ws n top s w' out
  pub fewer : w'.left < w.left

-- after a child is entered, after a group is left, and after one turn
abbrev pub EntersIs : List ℕ → List ℕ → List ℕ → ℕ → ℕ → Standing → Walk → List ℕ → Result Walk ℕ → Type 0
EntersIs d x ws n top s w out (Ok w') = Goes d x ws n top s w out w'
EntersIs d x ws n top s w out (Err k) = DeepRow d x ws n top k

-- whatever the top of the walk is
pub record Enters (d x ws : List ℕ) (n : ℕ) (s : Standing) (w : Walk) (out out' : List ℕ) (r : Result Walk ℕ) : Type 0 where
  pub is : (top : ℕ) → Walking d x ws n top s w out → EntersIs d x ws n top s w out' r

abbrev pub LeavesIs : List ℕ → List ℕ → List ℕ → ℕ → ℕ → Standing → Walk → List ℕ → ControlFlow ℕ Walk → Type 0
LeavesIs d x ws n top s w out (Continue w') = Goes d x ws n top s w out w'
LeavesIs d x ws n top s w out (Break r) = AllPut d x ws n top out r

pub record Leaves (d x ws : List ℕ) (n top : ℕ) (s : Standing) (w : Walk) (out : List ℕ) (r : ControlFlow ℕ Walk) : Type 0 where
  pub is : LeavesIs d x ws n top s w out r

abbrev pub TurnIs : List ℕ → List ℕ → List ℕ → ℕ → ℕ → Standing → Walk → List ℕ → Result (ControlFlow ℕ Walk) ℕ → Type 0
TurnIs d x ws n top s w out (Ok r) = LeavesIs d x ws n top s w out r
TurnIs d x ws n top s w out (Err k) = DeepRow d x ws n top k

pub record Turns (d x ws : List ℕ) (n top : ℕ) (s : Standing) (w : Walk) (out : List ℕ) (r : Result (ControlFlow ℕ Walk) ℕ) : Type 0 where
  pub is : TurnIs d x ws n top s w out r

-- the entry: what is answered and left for row i of sound rows
pub record Writable (kind : ℕ) (r : Bool) : Type 0 where
  pub is : among kind kinds.parts ≡ if r false true

pub record WritesSound (d x ws : List ℕ) (n i : ℕ) (t t' : List ℕ) (r : Result ℕ Fault) : Type 0 where
  pub says :
      Says
      (if (is_writable ws n i) (tree_written (length t) (too_deep (element_at d x ws) 0 (shape_at ws n i)) (tree_at d x ws n i)) (wrong 20 i))
      (length t)
      t'
      r
