-- What the steps of the entry `write_items` say.
use Rattle.std.specs.Prelude.{ℕ, ◌≤◌, ◌<◌, ◌≡◌, List, Bool, true, false, not, ◌&&◌, ◌||◌, ltb, length, get_or, replicate, Option, None, Some, Result, Ok, Err}
use Rattle.tables.specs.Table.{Rep}
use Rattle.answers.specs.Text.{Text, wrong, Says}
use Rattle.document.specs.Kinds as kinds
use Rattle.document.specs.Elements.{among}
use Rattle.items.specs.Words.{word_at}
use Rattle.items.specs.Written.{concat}
use Rattle.items.specs.Content.{content_at}
use Rattle.items.specs.Several.{texts_of, ends_from, capped, fitted, items_written, several_writing, ends_left}
use Rattle.writers.specs.Writes.{ItemPut}
use Rattle.writers.specs.Entry.{Admitted}
use Rattle.faults.specs.declared.Fault.{Fault}

-- there is row i among n rows, and its kind is written
unfoldable pub is_item : List ℕ → ℕ → ℕ → Bool
is_item ws n i = ltb i n && among (word_at ws i 0) kinds.written

pub record IsItem (ws : List ℕ) (n i : ℕ) (r : Bool) : Type 0 where
  pub is : r ≡ is_item ws n i

-- row i is the k-th that is asked for
pub record At (is : List ℕ) (k i : ℕ) : Type 0 where
  pub same : i ≡ get_or is k 0

-- the k-th that is asked for is an item
pub record Asks (ws : List ℕ) (n : ℕ) (is : List ℕ) (k : ℕ) : Type 0 where
  pub within : k < length is
  pub item : is_item ws n (get_or is k 0) ≡ true

-- its item is put
pub record RowPut (d x ws : List ℕ) (n : ℕ) (is : List ℕ) (k m : ℕ) (t t' : List ℕ) (r : ℕ) : Type 0 where
  pub put : ItemPut d x ws n (get_or is k 0) m t t' r

-- all rows asked for are items; or row i, the k-th, is the first that is none
abbrev pub IsMissing : List ℕ → ℕ → List ℕ → Option ℕ → Type 0
IsMissing ws n is None = (k : ℕ) → k < length is → is_item ws n (get_or is k 0) ≡ true
IsMissing ws n is (Some i) =
    (k : ℕ) × (k < length is) × (i ≡ get_or is k 0) × ((j : ℕ) → j < k → is_item ws n (get_or is j 0) ≡ true) × (is_item ws n i ≡ false)

pub record Missing (ws : List ℕ) (n : ℕ) (is : List ℕ) (r : Option ℕ) : Type 0 where
  pub found : IsMissing ws n is r

-- all rows asked for are items, and there are words for their ends
pub record Fit (ws : List ℕ) (n : ℕ) (is : List ℕ) (slots : ℕ) : Type 0 where
  pub items : (k : ℕ) → k < length is → is_item ws n (get_or is k 0) ≡ true
  pub room : length is ≤ slots

-- a fault, or else what comes of the rest
abbrev pub fault_of : Result (Unit {0}) Fault → Text → Text
fault_of (Err x) t = wrong x.number x.place
fault_of (Ok u) t = t

-- what is wrong with the rows asked for, whatever document and text they point into; with the rows too
pub record VetsItems (ws : List ℕ) (n : ℕ) (is : List ℕ) (slots : ℕ) (r : Result (Unit {0}) Fault) : Type 0 where
  pub says : (d x : List ℕ) (room : ℕ) → items_written (content_at d x ws n) is room slots ≡ fault_of r (fitted room (concat (texts_of (content_at d x ws n) is)))
  pub fine : r ≡ Ok tt → Fit ws n is slots

pub record Vets (d x ws : List ℕ) (n : ℕ) (is : List ℕ) (slots : ℕ) (r : Result (Unit {0}) Fault) : Type 0 where
  pub says : (room : ℕ) → several_writing d x ws n is room slots ≡ fault_of r (fitted room (concat (texts_of (content_at d x ws n) is)))
  pub admitted : r ≡ Ok tt → Admitted d x ws n
  pub fine : r ≡ Ok tt → Fit ws n is slots

-- the texts are put, n bytes of them, and their ends; or they are more bytes than a word counts
pub record Stand (ts : List (List ℕ)) (count n : ℕ) (out ends : List ℕ) : Type 0 where
  pub counts : n ≡ capped (length (concat ts))
  pub bytes : n < 4294967296 → Rep 1 out n (concat ts)
  pub words : n < 4294967296 → Rep 1 ends count (ends_from 0 ts)

pub record SeveralPut (d x ws : List ℕ) (n : ℕ) (is out ends : List ℕ) (r : ℕ) : Type 0 where
  pub stand : Stand (texts_of (content_at d x ws n) is) (length is) r out ends

-- n bytes have the room, and a word counts them
pub record Fits (n room : ℕ) (r : Bool) : Type 0 where
  pub is : r ≡ not (ltb room n || ltb 4294967295 n)

-- what is answered and left of texts
pub record Left (ts : List (List ℕ)) (room slots : ℕ) (out ends : List ℕ) (r : Result ℕ Fault) : Type 0 where
  pub says : Says (fitted room (concat ts)) room out r
  pub of_ends : ends ≡ ends_left slots (ends_from 0 ts) (fitted room (concat ts))

pub record FinishesItems (count n : ℕ) (out ends out' ends' : List ℕ) (r : Result ℕ Fault) : Type 0 where
  pub left : (ts : List (List ℕ)) → Stand ts count n out ends → count ≤ length ends → Left ts (length out) (length ends) out' ends' r

pub record WritesFit (d x ws : List ℕ) (n : ℕ) (is : List ℕ) (room slots : ℕ) (out ends : List ℕ) (r : Result ℕ Fault) : Type 0 where
  pub left : Left (texts_of (content_at d x ws n) is) room slots out ends r

-- zeros are left
pub record Clears (a p room slots : ℕ) (out ends : List ℕ) (r : Result ℕ Fault) : Type 0 where
  pub says : Says (wrong a p) room out r
  pub of_ends : ends ≡ replicate slots 0
