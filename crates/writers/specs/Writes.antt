-- What the functions that put parts of an item say: d is the document, x the text, ws the words of the rows; n bytes are put
-- before, and r are after.
use Rattle.std.specs.Prelude.{ℕ, suc, ◌+◌, ◌-◌, ◌*◌, ◌≤◌, ◌<◌, ◌^◌, ◌≡◌, List, [], ◌∷◌, ◌++◌, map, Bool, eqb, length, drop}
use Rattle.std.proofs.Math.Option.{Option, some}
use Rattle.slices.specs.Bytes.{if, bytes}
use Rattle.tables.specs.Triple.{shown}
use Rattle.answers.specs.Puts.{Puts}
use Rattle.references.specs.Escape.{escape}
use Rattle.document.specs.Kinds as kinds
use Rattle.document.specs.Elements.{among}
use Rattle.items.specs.Words.{triple_at, shown_by, rows_shown, word_at, is_child, shown_row}
use Rattle.items.specs.Written.{Pair, pairs, optional, directions, closing_tag, concat, written_annotation, written_arg, written_member, Item, written}
use Rattle.items.specs.Content.{direction, annotation_of, annotations, arg_of, args, member_of, content_at}
use Rattle.writers.specs.Rows.{rows_in, Held, RowHeld, Last, Orders}

-- what the triple from word k on of row i shows
pub record ShownAt (d x ws : List ℕ) (i k : ℕ) (s : List ℕ) : Type 0 where
  pub is : s ≡ shown d x (triple_at k (drop (i * 16) ws))
  pub short : length s ≤ 1048576

-- what putting it needs: the row is held, and there is room for the count
pub record Puttable (ws : List ℕ) (i k : ℕ) (before : List ℕ) (n : ℕ) : Type 0 where
  pub held : RowHeld ws i
  pub word : k ≤ 11
  pub room : n + length before + 6291456 < 2 ^ 62

-- the same put, escaped, after other bytes
pub record ShownPut (d x ws : List ℕ) (i k : ℕ) (before : List ℕ) (n : ℕ) (t t' : List ℕ) (r : ℕ) : Type 0 where
  pub puts : Puts (before ++ escape (shown d x (triple_at k (drop (i * 16) ws)))) n t t' r
  pub most : r ≤ n + length before + 6291456

-- row i as an annotation
unfoldable pub annotation_at : List ℕ → List ℕ → List ℕ → ℕ → List ℕ
annotation_at d x ws i = written_annotation (annotation_of (shown_row d x ws i))

pub record AnnotationPut (d x ws : List ℕ) (i n : ℕ) (t t' : List ℕ) (r : ℕ) : Type 0 where
  pub puts : Puts (annotation_at d x ws i) n t t' r
  pub most : r ≤ n + 16777216

-- the same, if it is one of row p less one
unfoldable pub if_annotation : List ℕ → List ℕ → List ℕ → ℕ → ℕ → List ℕ
if_annotation d x ws p i = if (is_child kinds.annotation p (shown_row d x ws i).kind (shown_row d x ws i).parent) (annotation_at d x ws i) []

pub record IfAnnotationPut (d x ws : List ℕ) (p i n : ℕ) (t t' : List ℕ) (r : ℕ) : Type 0 where
  pub puts : Puts (if_annotation d x ws p i) n t t' r
  pub most : r ≤ n + 16777216

-- what putting the children of a row needs that stand among the rows from one on up to another: the rows are held, and there
-- is room for the count
pub record Scannable (ws : List ℕ) (from to : ℕ) (n : ℕ) : Type 0 where
  pub onward : from ≤ to
  pub few : to ≤ 262144
  pub held : to * 16 ≤ length ws
  pub room : n + (to - from) * 16777216 + 16 < 2 ^ 62

-- the annotations of a row among the rows from one on up to another; p is that row plus one
unfoldable pub annotations_in : List ℕ → List ℕ → List ℕ → ℕ → ℕ → ℕ → List ℕ
annotations_in d x ws p from to = concat (map written_annotation (annotations p (rows_in d x ws from (to - from))))

pub record AnnotationsPut (d x ws : List ℕ) (p from to n : ℕ) (t t' : List ℕ) (r : ℕ) : Type 0 where
  pub puts : Puts (annotations_in d x ws p from to) n t t' r
  pub most : r ≤ n + (to - from) * 16777216

-- the name of the arg in row i
unfoldable pub name_at : List ℕ → List ℕ → List ℕ → ℕ → Option (List ℕ)
name_at d x ws i = shown_by d x (triple_at 2 (drop (i * 16) ws))

-- its type and its direction, as attributes
unfoldable pub type_at : List ℕ → List ℕ → List ℕ → ℕ → List Pair
type_at d x ws i = record { key = bytes "type"; value = shown d x (triple_at 5 (drop (i * 16) ws)) } ∷ []

unfoldable pub direction_at : List ℕ → ℕ → List Pair
direction_at ws i = directions (direction (word_at ws i 14))

-- attributes put
pub record PairsPut (ps : List Pair) (n : ℕ) (t t' : List ℕ) (r : ℕ) : Type 0 where
  pub puts : Puts (pairs ps) n t t' r
  pub most : r ≤ n + 6291472

pub record DirectionPut (ws : List ℕ) (i n : ℕ) (t t' : List ℕ) (r : ℕ) : Type 0 where
  pub puts : Puts (pairs (direction_at ws i)) n t t' r
  pub most : r ≤ n + 16

-- the start tag of the arg in row i, up to its end
pub record ArgTagPut (d x ws : List ℕ) (i n : ℕ) (t t' : List ℕ) (r : ℕ) : Type 0 where
  pub puts : Puts (bytes "<arg" ++ pairs (optional (name_at d x ws i) ++ (type_at d x ws i ++ direction_at ws i))) n t t' r
  pub most : r ≤ n + 16777200

-- row i as an arg of the first m rows, if none from row `to` on is a child of it
pub record ArgPut (d x ws : List ℕ) (i to n : ℕ) (t t' : List ℕ) (r : ℕ) : Type 0 where
  pub puts : (m : ℕ) → Held ws m → Last ws m i to → Puts (written_arg (arg_of (rows_shown d x ws m) i (shown_row d x ws i))) n t t' r
  pub most : r ≤ n + (to - i) * 16777216

-- row i of the first m rows as an arg, if it is one of row p less one
unfoldable pub if_arg : List ℕ → List ℕ → List ℕ → ℕ → ℕ → ℕ → List ℕ
if_arg d x ws m p i = if (is_child kinds.arg p (shown_row d x ws i).kind (shown_row d x ws i).parent) (written_arg (arg_of (rows_shown d x ws m) i (shown_row d x ws i))) []

pub record IfArgPut (d x ws : List ℕ) (m p i n : ℕ) (t t' : List ℕ) (r : ℕ) : Type 0 where
  pub puts : Puts (if_arg d x ws m p i) n t t' r
  pub most : r ≤ n + 4398046511104

-- what putting the args of row p less one needs: m rows are held
pub record ArgsScannable (ws : List ℕ) (m p : ℕ) (ordered : Bool) : Type 0 where
  pub held : Held ws m
  pub onward : p ≤ m
  pub orders : Orders ws m p ordered

-- and what putting one of them needs
pub record Turn (ws : List ℕ) (m p : ℕ) (ordered : Bool) (i : ℕ) (n : ℕ) : Type 0 where
  pub held : Held ws m
  pub after : p ≤ i
  pub within : i < m
  pub orders : Orders ws m p ordered
  pub room : n + 4398046511104 + 16 < 2 ^ 62

-- the args of row p less one among the first m rows, from row i on
unfoldable pub args_in : List ℕ → List ℕ → List ℕ → ℕ → ℕ → ℕ → List ℕ
args_in d x ws m p i = concat (map written_arg (args (rows_shown d x ws m) p i (rows_in d x ws i (m - i))))

-- what putting the annotations of row p less one needs
pub record NotesScannable (ws : List ℕ) (m p : ℕ) : Type 0 where
  pub held : Held ws m
  pub onward : p ≤ m

-- children of one kind put
pub record KindPut (b : List ℕ) (n : ℕ) (t t' : List ℕ) (r : ℕ) : Type 0 where
  pub puts : Puts b n t t' r
  pub most : r ≤ n + 1152921504606846976

abbrev pub tag_of : ℕ → List ℕ
tag_of kind = if (eqb kind kinds.method) (bytes "method") (bytes "signal")

pub record MemberTagPut (d x ws : List ℕ) (i kind n : ℕ) (t t' : List ℕ) (r : ℕ) : Type 0 where
  pub puts : Puts (60 ∷ tag_of kind ++ (bytes " name=\"" ++ escape (shown d x (triple_at 2 (drop (i * 16) ws))))) n t t' r
  pub most : r ≤ n + 6291480

pub record MemberEndPut (kind n : ℕ) (t t' : List ℕ) (r : ℕ) : Type 0 where
  pub puts : Puts (closing_tag (tag_of kind)) n t t' r

-- what putting row i with its children needs
pub record MemberScannable (ws : List ℕ) (m i : ℕ) : Type 0 where
  pub held : Held ws m
  pub within : i < m

pub record ChildrenPut (d x ws : List ℕ) (m i n : ℕ) (t t' : List ℕ) (r : ℕ) : Type 0 where
  pub puts : Puts (args_in d x ws m (suc i) (suc i) ++ annotations_in d x ws (suc i) (suc i) m) n t t' r
  pub most : r ≤ n + 2305843009213693952

pub record MemberPut (d x ws : List ℕ) (m i kind n : ℕ) (t t' : List ℕ) (r : ℕ) : Type 0 where
  pub puts : Puts (written_member (tag_of kind) (member_of (rows_shown d x ws m) i (shown_row d x ws i))) n t t' r

-- whether rows of a kind are written
pub record Writable (kind : ℕ) (r : Bool) : Type 0 where
  pub is : r ≡ among kind kinds.written

-- row i of the first m rows
pub record ItemPut (d x ws : List ℕ) (m i n : ℕ) (t t' : List ℕ) (r : ℕ) : Type 0 where
  pub item : Item
  pub is : content_at d x ws m i ≡ some item
  pub puts : Puts (written item) n t t' r
