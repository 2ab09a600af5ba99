-- What the check of sound rows says, and its parts.
use Rattle.std.specs.Prelude.{ℕ, suc, ◌+◌, ◌*◌, ◌≤◌, ◌<◌, ◌≡◌, Bool, true, false, not, ◌&&◌, ◌||◌, List, [], ◌∷◌, eqb, leb, ltb, length, take, drop, get_or, Option, None, Some, Result, Ok, Err}
use Rattle.std.specs.Borrow.{Bor}
use Rattle.slices.specs.Bytes.{if}
use Rattle.slices.specs.Run.{Run}
use Rattle.faults.specs.Fault.{fault}
use Rattle.faults.specs.declared.Fault.{Fault}
use Rattle.utf8.specs.WellFormed.{within, ill_formed, well_formed}
use Rattle.utf8.specs.Ascii.{ascii}
use Rattle.utf8.specs.Trim.{Start}
use Rattle.utf8.specs.Sequence.{continuation}
use Rattle.names.specs.Signature.{basic_signature}
use Rattle.tables.specs.Triple.{inside, shown}
use Rattle.tables.specs.declared.Triple.{Triple}
use Rattle.document.specs.Elements.{among}
use Rattle.document.specs.Kinds as kinds
use Rattle.items.specs.Words.{RowWords, triple_at, row_of, rows_of, is_child}
use Rattle.items.specs.Order.{parent_at, Under, DocumentOrder}
use Rattle.items.specs.Sound.{placed, nameless, valued, tp_typed, good_triple, name_use, value_use, tp_use, doc_use, valid_name, valid_value, any_text, in_document, good_row, members_of, keyed, counted, sound_row, first_bad, judged, Soundness, sound, unsound, soundness}
use Rattle.soundness.specs.declared.ends.Look.{Look}
use Rattle.soundness.specs.declared.ends.Look.TheVariants.{Whole, Ascii, Nothing}
use Rattle.soundness.specs.declared.tally.Tally.{Tally}
use Rattle.soundness.specs.declared.tally.Tally.TheVariants.{Empty, Key, Other, Pair, Many}

-- by kind: the name may be missing; words 5-7 are used; there may be a tp type
unfoldable pub may_lack_name : ℕ → Bool
may_lack_name k = among k nameless

unfoldable pub uses_value : ℕ → Bool
uses_value k = among k valued

unfoldable pub uses_tp : ℕ → Bool
uses_tp k = among k tp_typed

-- a place is u, or has a byte that continues no character
unfoldable pub edge : List ℕ → ℕ → ℕ → Bool
edge s u at = eqb at u || not (within continuation (get_or s at 0))

-- how many bytes of a buffer are known to be UTF-8, by how much of it is looked through: those before the first ill-formed sequence, those
-- before the first from 128 on, or none
abbrev pub KnownBy : Look → List ℕ → ℕ → Type 0
KnownBy Whole s r = r ≡ ill_formed s
KnownBy Ascii s r = Run ascii s 0 r
KnownBy Nothing s r = r ≡ 0

pub record Knows (look : Look) (s : List ℕ) (r : ℕ) : Type 0 where
  pub is : KnownBy look s r
  pub start : Start s r

-- a triple leads to a part of a buffer that is UTF-8, and of its buffer
unfoldable pub is_part : List ℕ → Triple → Bool
is_part s t = leb (t.start + t.len) (length s) && well_formed (take t.len (drop t.start s))

unfoldable pub is_text : List ℕ → List ℕ → Triple → Bool
is_text document text t = inside document text t && well_formed (shown document text t)

-- a docstring of a row of kind k
unfoldable pub good_doc : List ℕ → List ℕ → ℕ → Triple → Bool
good_doc document text k t = good_triple document text (doc_use k) any_text t && in_document t

-- words 2-13 of a row
unfoldable pub good_texts : List ℕ → List ℕ → RowWords → Bool
good_texts document text r =
    good_triple document text (name_use r.kind) (valid_name r.kind) r.name
    && good_triple document text (value_use r.kind) (valid_value r.kind) r.value
    && good_triple document text (tp_use r.kind) any_text r.tp
    && good_doc document text r.kind r.doc

-- what the tests of row i say: of its place, of its texts and of the whole row, however many rows follow it
pub record Placed (ws : List ℕ) (i : ℕ) (r : Bool) : Type 0 where
  pub is : (n : ℕ) → i < n → r ≡ placed (rows_of n ws) i (row_of (drop (i * 16) ws))

pub record Texts (document text ws : List ℕ) (i : ℕ) (r : Bool) : Type 0 where
  pub is : r ≡ good_texts document text (row_of (drop (i * 16) ws))

pub record RowGood (document text ws : List ℕ) (i : ℕ) (r : Bool) : Type 0 where
  pub is : (n : ℕ) → i < n → r ≡ good_row document text (rows_of n ws) i (row_of (drop (i * 16) ws))

-- whether row k's parent is the row before it, or above that, where the rows before it are in document order; whether n rows are
pub record Follows (ws : List ℕ) (k : ℕ) (r : Bool) : Type 0 where
  pub is : r ≡ true → Under (parent_at ws) (parent_at ws k) k
  pub exact : Under (parent_at ws) (parent_at ws k) k → r ≡ true

pub record Orders (ws : List ℕ) (n : ℕ) (r : Bool) : Type 0 where
  pub is : r ≡ true → DocumentOrder ws n
  pub exact : DocumentOrder ws n → r ≡ true

-- row k is a member of the definition in row i
pub record Member (ws : List ℕ) (i k : ℕ) (r : Bool) : Type 0 where
  pub is : r ≡ is_child kinds.member (suc i) (row_of (drop (k * 16) ws)).kind (row_of (drop (k * 16) ws)).parent

-- the members of the definition in row i from row k on, among n rows
abbrev pub members_from : List ℕ → ℕ → ℕ → ℕ → List RowWords
members_from ws n i k = members_of (suc i) (drop k (rows_of n ws))

-- row k is the first of them, after row i
pub record FirstMember (ws : List ℕ) (n i from k : ℕ) : Type 0 where
  pub onward : i < k
  pub inside : k < n
  pub is : members_from ws n i from ≡ row_of (drop (k * 16) ws) ∷ members_from ws n i (suc k)

-- the first of them, if there is one
pub record NextMember (ws : List ℕ) (n i from : ℕ) (r : Option ℕ) : Type 0 where
  pub some : (k : ℕ) → r ≡ Some k → FirstMember ws n i from k
  pub none : r ≡ None → members_from ws n i from ≡ []

-- row k, a member, shows a basic signature
pub record Basic (document text ws : List ℕ) (k : ℕ) (r : Bool) : Type 0 where
  pub is : r ≡ basic_signature (shown document text (triple_at 5 (drop (k * 16) ws)))

-- row i is a good mapping by the members after it; by all members of it, it has those that its kind needs
pub record Keyed (document text ws : List ℕ) (n i : ℕ) (r : Bool) : Type 0 where
  pub is : r ≡ keyed document text (members_from ws n i (suc i))

pub record Counted (document text ws : List ℕ) (n i : ℕ) (r : Bool) : Type 0 where
  pub is : r ≡ counted document text (row_of (drop (i * 16) ws)).kind (members_of (suc i) (rows_of n ws))

-- a tally of members: none; one, which shows a basic signature; another one; two, of which the first shows it; any others
abbrev pub tally_of : List ℕ → List ℕ → List RowWords → Tally
tally_of document text [] = Empty
tally_of document text (k ∷ []) = if (basic_signature (shown document text k.value)) Key Other
tally_of document text (k ∷ v ∷ []) = if (basic_signature (shown document text k.value)) Pair Many
tally_of document text (k ∷ v ∷ m ∷ ms) = Many

-- what it becomes with one member more, by whether that shows a basic signature
abbrev pub added : Bool → Tally → Tally
added b Empty = if b Key Other
added b Key = Pair
added b Other = Many
added b Pair = Many
added b Many = Many

pub record More (document text ws : List ℕ) (k : ℕ) (t r : Tally) : Type 0 where
  pub is : r ≡ added (basic_signature (shown document text (triple_at 5 (drop (k * 16) ws)))) t

-- of each of n rows, the tally of its members among the first k
pub record Tallied (document text ws : List ℕ) (n k : ℕ) (tallies : List Tally) : Type 0 where
  pub room : n ≤ length tallies
  pub is : (i : ℕ) → i < n → get_or tallies i Empty ≡ tally_of document text (members_of (suc i) (rows_of k ws))

-- whether a tally is of no member
abbrev pub is_empty : Tally → Bool
is_empty Empty = true
is_empty Key = false
is_empty Other = false
is_empty Pair = false
is_empty Many = false

-- whether a tally is of two members, of which the first has a basic type's signature
abbrev pub is_pair : Tally → Bool
is_pair Empty = false
is_pair Key = false
is_pair Other = false
is_pair Pair = true
is_pair Many = false

-- whether the members that are tallied as t are those that kind k needs
abbrev pub counted_by : ℕ → Tally → Bool
counted_by k t = if (eqb k kinds.struct) (not (is_empty t)) (if (eqb k kinds.mapping) (is_pair t) true)

pub record ByTally (ws : List ℕ) (i : ℕ) (t : Tally) (r : Bool) : Type 0 where
  pub is : r ≡ counted_by (row_of (drop (i * 16) ws)).kind t

-- n rows are in document order, or there is a tally for each
pub record Prepared (document text ws : List ℕ) (n : ℕ) (tallies : Option (Bor (List Tally))) : Type 0 where
  pub order : tallies ≡ None → DocumentOrder ws n
  pub tally : (ts : Bor (List Tally)) → tallies ≡ Some ts → Tallied document text ws n n ts.now

-- row i of n is sound
pub record RowSound (document text ws : List ℕ) (n i : ℕ) (r : Bool) : Type 0 where
  pub is : r ≡ sound_row document text (rows_of n ws) i (row_of (drop (i * 16) ws))

-- what the check says of n rows: they are sound, or the place of the refusal
abbrev pub soundness_of : Result Unit ℕ → Soundness
soundness_of (Ok u) = sound
soundness_of (Err place) = unsound place

-- the first bad row of n is the place
pub record FirstBad (document text ws : List ℕ) (n : ℕ) (r : Result Unit ℕ) : Type 0 where
  pub is : soundness_of r ≡ judged n (first_bad document text (rows_of n ws) 0 (rows_of n ws))

pub record Judges (document text ws : List ℕ) (n : ℕ) (r : Result Unit ℕ) : Type 0 where
  pub is : soundness_of r ≡ soundness document text ws n

-- number and place of the refusal, if there is one: 19 at the place that makes rows unsound; before it 2 for a document or a text that is too long
abbrev pub refusal_of : Soundness → Result Unit Fault
refusal_of sound = Ok tt
refusal_of (unsound p) = Err (fault 19 p)

unfoldable pub admission : List ℕ → List ℕ → List ℕ → ℕ → Result Unit Fault
admission document text ws n =
    let r = refusal_of (soundness document text ws n) in
    if (ltb 1048576 (length document) || ltb 1048576 (length text)) (Err (fault 2 1048576)) r

pub record Admits (document text ws : List ℕ) (n : ℕ) (r : Result Unit Fault) : Type 0 where
  pub is : r ≡ admission document text ws n
