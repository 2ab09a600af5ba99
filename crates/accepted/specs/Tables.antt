-- What is said of the tables of a document that is accepted: of what it means, of what is left of it in the room lent, and of any
-- tables in the record that the contract of `reader::parse_with_warnings` cites.
use Rattle.std.specs.Prelude.{ℕ, suc, ◌<◌, ◌≡◌, List, ◌++◌, map, false, length, drop, get_or, Ok}
use Rattle.slices.specs.Bytes.{span, empty}
use Rattle.scan.specs.Classes.{name_byte}
use Rattle.document.specs.Tags.{Shown}
use Rattle.document.specs.Rows.{Tables, words_from, texts}
use Rattle.document.specs.Elements.{kind_of}
use Rattle.document.specs.Reading.{accepted}
use Rattle.document.specs.Whole.{Room, meaning, read, rows_left, text_left, Says}
use Rattle.document.specs.Verdict.{counts}
use Rattle.items.specs.Words.{word_at, rows_shown}
use Rattle.items.specs.View.{view_row, text_shown}
use Rattle.items.specs.Sound.{sound, soundness}
use Rattle.items.specs.Order.{InOrder, DocumentOrder}

-- the words and the texts of the rows that a document means, whatever stands after them, show these rows
abbrev pub WordsShown : Type 0
WordsShown =
    (doc : List ℕ) (t : Tables Shown) →
    meaning doc ≡ accepted t →
    (y z : List ℕ) →
    rows_shown doc (texts t.rows ++ y) (words_from 0 t.rows ++ z) (length t.rows) ≡ map (view_row text_shown) t.rows

-- and are sound
abbrev pub TablesSound : Type 0
TablesSound =
    (doc : List ℕ) (t : Tables Shown) →
    meaning doc ≡ accepted t →
    (y z : List ℕ) →
    soundness doc (texts t.rows ++ y) (words_from 0 t.rows ++ z) (length t.rows) ≡ sound

-- what is left of them in the room lent shows the rows that were read
abbrev pub LeftShown : Type 0
LeftShown =
    (doc : List ℕ) (r : Room) (t : Tables Shown) →
    read doc r ≡ accepted t →
    rows_shown doc (text_left r (read doc r)) (rows_left r (read doc r)) (length t.rows) ≡ map (view_row text_shown) t.rows

-- and is sound
abbrev pub LeftSound : Type 0
LeftSound =
    (doc : List ℕ) (r : Room) (t : Tables Shown) →
    read doc r ≡ accepted t →
    soundness doc (text_left r (read doc r)) (rows_left r (read doc r)) (length t.rows) ≡ sound

-- the n rows of a document that is accepted are in document order: each row's parent is the row before it, or above that
abbrev pub RowsInDocumentOrder : Type 0
RowsInDocumentOrder =
    (doc rows warnings text : List ℕ) (room : Room) (n x w : ℕ) →
    Says doc room rows warnings text (Ok (counts n x w)) →
    DocumentOrder rows n

-- and so in order: what stands in a child of a row stands before the next child of that row
abbrev pub RowsInOrder : Type 0
RowsInOrder =
    (doc rows warnings text : List ℕ) (room : Room) (n x w : ℕ) →
    Says doc room rows warnings text (Ok (counts n x w)) →
    (i : ℕ) →
    InOrder rows n i

-- the name that follows a place
abbrev pub name_after : List ℕ → ℕ → List ℕ
name_after doc p = span name_byte (drop (suc p) doc)

-- word 15 of row i is a place where `<` (60) stands, and the name of the row's element follows it: a name of the row's kind, but the
-- root may have any
pub record Begins (doc rows : List ℕ) (i : ℕ) : Type 0 where
  pub byte : get_or doc (word_at rows i 15) 0 ≡ 60
  pub named : empty (name_after doc (word_at rows i 15)) ≡ false
  pub kind : 0 < i → kind_of (name_after doc (word_at rows i 15)) ≡ word_at rows i 0

-- of each row of a document that is accepted
abbrev pub RowsBegin : Type 0
RowsBegin =
    (doc rows warnings text : List ℕ) (room : Room) (n x w : ℕ) →
    Says doc room rows warnings text (Ok (counts n x w)) →
    (i : ℕ) →
    i < n →
    Begins doc rows i
