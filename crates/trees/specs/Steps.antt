-- What the functions that write a tree need and say: d is the document, x the text, ws the words of the rows, of which n are claimed.
use Rattle.std.specs.Prelude.{ℕ, zero, suc, ◌+◌, ◌-◌, ◌*◌, ◌≤◌, ◌<◌, ◌^◌, ◌≡◌, List, [], ◌∷◌, ◌++◌, Bool, true, false, ◌&&◌, eqb, length, drop, Result, Ok, Err}
use Rattle.std.proofs.Math.Option.{Option, some}
use Rattle.slices.specs.Bytes.{if}
use Rattle.answers.specs.Puts.{Puts}
use Rattle.document.specs.Kinds as kinds
use Rattle.document.specs.Elements.{among}
use Rattle.items.specs.Words.{word_at, triple_at, shown_by}
use Rattle.items.specs.Sound.{good_triple, doc_use, any_text, in_document, valid_word}
use Rattle.items.specs.Order.{DocumentOrder}
use Rattle.items.specs.Written.{pairs, closing_tag, concat}
use Rattle.trees.specs.Shape.{types, args, members, annotations, nodes}
use Rattle.trees.specs.Written.{element_at, tag_of, name_key, value_key, tp_key, given, word_pairs, attributes, docstrings}
use Rattle.trees.specs.declared.children.Standing.{Standing}

-- the groups by their numbers
abbrev pub group_kinds : ℕ → List ℕ
group_kinds zero = types
group_kinds (suc zero) = args
group_kinds (suc (suc zero)) = members
group_kinds (suc (suc (suc zero))) = annotations
group_kinds (suc (suc (suc (suc zero)))) = nodes
group_kinds (suc (suc (suc (suc (suc g))))) = []

-- the group of a kind
abbrev pub group_of : ℕ → ℕ
group_of k = if (among k types) 0 (if (among k args) 1 (if (among k annotations) 3 (if (among k nodes) 4 2)))

-- what sound rows are known to have: they are held, within the limits; each parent comes before its row; each kind is in a group
pub record Held (d x ws : List ℕ) (n : ℕ) : Type 0 where
  pub document : length d ≤ 1048576
  pub text : length x ≤ 1048576
  pub few : n ≤ 262144
  pub held : n * 16 ≤ length ws
  pub parents : (k : ℕ) → k < n → 0 < k → (0 < word_at ws k 1) × (word_at ws k 1 ≤ k)
  pub grouped : (k : ℕ) → k < n → among (word_at ws k 0) (group_kinds (group_of (word_at ws k 0))) ≡ true
  pub words : (k : ℕ) → k < n → valid_word (word_at ws k 0) (word_at ws k 14) ≡ true
  pub docs : (k : ℕ) → k < n → good_triple d x (doc_use (word_at ws k 0)) any_text (triple_at 11 (drop (k * 16) ws)) ≡ true
  pub docs_in : (k : ℕ) → k < n → in_document (triple_at 11 (drop (k * 16) ws)) ≡ true

-- between a row that is no node and its parent, if that is a node, no node stands; in document order: no other child of a node follows a
-- node in it
abbrev pub NodesLast : List ℕ → ℕ → Type 0
NodesLast ws n =
    (j k : ℕ) →
    j < k →
    k < n →
    word_at ws j 0 ≡ kinds.node →
    eqb (word_at ws k 0) kinds.node ≡ false →
    word_at ws (word_at ws k 1 - 1) 0 ≡ kinds.node →
    suc j ≤ word_at ws k 1

-- how the rows stand
pub record Stands (ws : List ℕ) (n : ℕ) (s : Standing) : Type 0 where
  pub ordered : s.ordered ≡ true → DocumentOrder ws n
  pub last : s.last ≡ true → NodesLast ws n
  pub exact_ordered : DocumentOrder ws n → s.ordered ≡ true
  pub exact_last : NodesLast ws n → s.last ≡ true

-- whether row k is a child of row i in group g
abbrev pub child_in : List ℕ → ℕ → ℕ → ℕ → Bool
child_in ws g i k = among (word_at ws k 0) (group_kinds g) && eqb (word_at ws k 1) (suc i)

-- the first child of row i in group g from a row on is row k; in document order the rows before it stand in row i
pub record NextAt (ws : List ℕ) (n i g from : ℕ) (s : Standing) (k : ℕ) : Type 0 where
  pub onward : from ≤ k
  pub within : k < n
  pub is : child_in ws g i k ≡ true
  pub none : (m : ℕ) → from ≤ m → m < k → child_in ws g i m ≡ false
  pub passed : s.ordered ≡ true → (m : ℕ) → from ≤ m → m < k → i < word_at ws m 1

-- there is none; in document order the rows up to row e stand in row i
pub record NoNext (ws : List ℕ) (n i g from : ℕ) (s : Standing) (e : ℕ) : Type 0 where
  pub onward : from ≤ e
  pub within : e ≤ n
  pub none : (m : ℕ) → from ≤ m → m < n → child_in ws g i m ≡ false
  pub passed : s.ordered ≡ true → (m : ℕ) → from ≤ m → m < e → i < word_at ws m 1

abbrev pub NextIs : List ℕ → ℕ → ℕ → ℕ → ℕ → Standing → Result ℕ ℕ → Type 0
NextIs ws n i g from s (Ok k) = NextAt ws n i g from s k
NextIs ws n i g from s (Err e) = NoNext ws n i g from s e

-- what the search is
pub record Next (ws : List ℕ) (n i g from : ℕ) (s : Standing) (r : Result ℕ ℕ) : Type 0 where
  pub is : NextIs ws n i g from s r

-- whether row i has a child
pub record HasChild (ws : List ℕ) (n i : ℕ) (r : Bool) : Type 0 where
  pub some : r ≡ true → (k : ℕ) × (i < k) × (k < n) × (word_at ws k 1 ≡ suc i)
  pub none : r ≡ false → (k : ℕ) → i < k → k < n → word_at ws k 1 ≡ suc i → ⊥

-- the start tag of row i, up to its end
pub record StartPut (d x ws : List ℕ) (i put : ℕ) (t t' : List ℕ) (r : ℕ) : Type 0 where
  pub puts : Puts (60 ∷ tag_of (word_at ws i 0) ++ pairs (attributes (element_at d x ws i))) put t t' r
  pub most : r ≤ put + 18874880

-- the docstring of row i, unless it is empty
pub record DocstringPut (d x ws : List ℕ) (i put : ℕ) (t t' : List ℕ) (r : ℕ) : Type 0 where
  pub puts : Puts (concat (docstrings (element_at d x ws i).doc)) put t t' r
  pub most : r ≤ put + 1048640

-- the closing tag of a kind
pub record ClosePut (kind put : ℕ) (t t' : List ℕ) (r : ℕ) : Type 0 where
  pub puts : Puts (closing_tag (tag_of kind)) put t t' r
  pub most : r ≤ put + 32

-- ---- the private functions

-- rows are held, and each parent comes before its row
pub record RowsHeld (ws : List ℕ) (n : ℕ) : Type 0 where
  pub few : n ≤ 262144
  pub held : n * 16 ≤ length ws
  pub parents : (k : ℕ) → k < n → 0 < k → (0 < word_at ws k 1) × (word_at ws k 1 ≤ k)

-- row k is held, and its parent comes before it
pub record RowKept (ws : List ℕ) (k : ℕ) : Type 0 where
  pub held : k * 16 + 16 ≤ length ws
  pub above : 0 < word_at ws k 1
  pub before : word_at ws k 1 ≤ k

-- if not, and row k is no node and stands in a node, that is the last node; if so, it is no node and stands in another
pub record Late (ws : List ℕ) (k node : ℕ) (r : Bool) : Type 0 where
  pub late : r ≡ true → (word_at ws k 0 ≡ kinds.node → ⊥) × (word_at ws (word_at ws k 1 - 1) 0 ≡ kinds.node) × (word_at ws k 1 ≡ suc node → ⊥)
  pub not : r ≡ false → (word_at ws k 0 ≡ kinds.node → ⊥) → word_at ws (word_at ws k 1 - 1) 0 ≡ kinds.node → word_at ws k 1 ≡ suc node

-- the last node up to row k, if `node` is the last before it
pub record LastNode (ws : List ℕ) (k node r : ℕ) : Type 0 where
  pub here : word_at ws k 0 ≡ kinds.node → r ≡ k
  pub before : (word_at ws k 0 ≡ kinds.node → ⊥) → r ≡ node

pub record NodesStand (ws : List ℕ) (n : ℕ) (r : Bool) : Type 0 where
  pub last : r ≡ true → NodesLast ws n
  pub exact : NodesLast ws n → r ≡ true

-- row k is after row i and held, and its kind is in its group
pub record Asked (ws : List ℕ) (i g k : ℕ) : Type 0 where
  pub few : k < 262144
  pub held : k * 16 + 16 ≤ length ws
  pub after : i < k
  pub group : g < 5
  pub grouped : among (word_at ws k 0) (group_kinds (group_of (word_at ws k 0))) ≡ true

pub record Child (ws : List ℕ) (i g k : ℕ) (r : Bool) : Type 0 where
  pub is : r ≡ child_in ws g i k

-- if so, no row from row k on is a child of row i in group g; if not, in document order row k stands in row i
pub record Past (ws : List ℕ) (i g k : ℕ) (s : Standing) (r : Bool) : Type 0 where
  pub none : r ≡ true → (n : ℕ) → Stands ws n s → (m : ℕ) → k ≤ m → m < n → child_in ws g i m ≡ false
  pub inside : r ≡ false → s.ordered ≡ true → i < word_at ws k 1

-- the same by document order, for all groups, and by nodes
pub record RunPast (ws : List ℕ) (i k : ℕ) (s : Standing) (r : Bool) : Type 0 where
  pub none : r ≡ true → (g n : ℕ) → Stands ws n s → (m : ℕ) → k ≤ m → m < n → child_in ws g i m ≡ false
  pub inside : r ≡ false → s.ordered ≡ true → i < word_at ws k 1

pub record GroupPast (ws : List ℕ) (i g k : ℕ) (s : Standing) (r : Bool) : Type 0 where
  pub none : r ≡ true → (n : ℕ) → Stands ws n s → (m : ℕ) → k ≤ m → m < n → child_in ws g i m ≡ false

-- an attribute up to its value
abbrev pub keyed : List ℕ → List ℕ
keyed k = 32 ∷ k ++ (61 ∷ 34 ∷ [])

pub record NamePut (kind : ℕ) (before : List ℕ) (n : ℕ) (t t' : List ℕ) (r : ℕ) : Type 0 where
  pub puts : Puts (before ++ tag_of kind) n t t' r
  pub most : r ≤ n + length before + 20

-- what putting an attribute of a value needs, and what it says, by the key that stands before it
pub record GivenHeld (value before : List ℕ) (n : ℕ) : Type 0 where
  pub short : length value ≤ 1048576
  pub lead : length before ≤ 20
  pub room : n + 6291520 < 2 ^ 62

pub record GivenPut (value before : List ℕ) (n : ℕ) (t t' : List ℕ) (r : ℕ) : Type 0 where
  pub puts : (key : List ℕ) → before ≡ keyed key → Puts (pairs (given key (some value))) n t t' r
  pub most : r ≤ n + 6291488

-- what the triple from word k on of row i shows, if it is there
abbrev pub shown_at : List ℕ → List ℕ → List ℕ → ℕ → ℕ → Option (List ℕ)
shown_at d x ws i k = shown_by d x (triple_at k (drop (i * 16) ws))

pub record AttributePut (d x ws : List ℕ) (i k : ℕ) (before : List ℕ) (n : ℕ) (t t' : List ℕ) (r : ℕ) : Type 0 where
  pub puts : (key : List ℕ) → before ≡ keyed key → Puts (pairs (given key (shown_at d x ws i k))) n t t' r
  pub most : r ≤ n + 6291488

pub record AttributesPut (d x ws : List ℕ) (i kind n : ℕ) (t t' : List ℕ) (r : ℕ) : Type 0 where
  pub puts : Puts (pairs (given (name_key kind) (shown_at d x ws i 2)) ++ (pairs (given (value_key kind) (shown_at d x ws i 5)) ++ pairs (given tp_key (shown_at d x ws i 8)))) n t t' r
  pub most : r ≤ n + 18874464

-- with the name of its tag before it
pub record TaggedPut (d x ws : List ℕ) (i kind n : ℕ) (t t' : List ℕ) (r : ℕ) : Type 0 where
  pub puts : Puts (60 ∷ tag_of kind ++ (pairs (given (name_key kind) (shown_at d x ws i 2)) ++ (pairs (given (value_key kind) (shown_at d x ws i 5)) ++ pairs (given tp_key (shown_at d x ws i 8))))) n t t' r
  pub most : r ≤ n + 18874496

-- word 14 of row i is valid for a kind
pub record WordHeld (ws : List ℕ) (i kind n : ℕ) : Type 0 where
  pub held : i * 16 + 16 ≤ length ws
  pub valid : valid_word kind (word_at ws i 14) ≡ true
  pub room : n + 128 < 2 ^ 62

pub record WordPut (ws : List ℕ) (i kind n : ℕ) (t t' : List ℕ) (r : ℕ) : Type 0 where
  pub puts : Puts (pairs (word_pairs kind (word_at ws i 14))) n t t' r
  pub most : r ≤ n + 20
