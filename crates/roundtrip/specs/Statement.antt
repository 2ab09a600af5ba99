-- Nobody who chooses the texts in sound rows can make a written method, signal or annotation read as something else.
use Rattle.std.specs.Prelude.{ℕ, ◌+◌, ◌/◌, ◌≤◌, ◌≡◌, List, [], ◌∷◌, ◌++◌, true, length}
use Rattle.std.proofs.Math.Option.{some}
use Rattle.slices.specs.Bytes.{bytes}
use Rattle.names.specs.Names.{interface_name}
use Rattle.document.specs.Kinds as kinds
use Rattle.document.specs.Tags.{Shown}
use Rattle.document.specs.Rows.{Tables, words_from, texts}
use Rattle.document.specs.Elements.{among}
use Rattle.document.specs.Reading.{accepted}
use Rattle.document.specs.Whole.{Room, read}
use Rattle.items.specs.Words.{rows_of, rows_shown}
use Rattle.items.specs.Sound.{kind_at, sound, soundness}
use Rattle.items.specs.Written.{Item, written}
use Rattle.items.specs.Content.{content_at}
use Rattle.roundtrip.specs.Items.{rows, node_row, interface_row, values, referenced}

-- the written bytes in a document of their own, in an interface of a name
abbrev pub around : List ℕ → List ℕ → List ℕ
around name b = bytes "<node><interface name=\"" ++ (name ++ (bytes "\">" ++ (b ++ bytes "</interface></node>")))

-- at most 1,048,576 bytes in all; at least two rows more than the item and all under it take; any warnings; text room for the
-- shown bytes of each attribute value that is written with a reference
pub record Fits (name : List ℕ) (c : Item) (room : Room) : Type 0 where
  pub short : length (around name (written c)) ≤ 1048576
  pub rows : 2 + length (rows 2 2 c) ≤ room.rows / 16
  pub text : referenced (values c) ≤ room.text

-- the reader accepts and gives no warning; that node (no name), that interface in it, and in the interface that one item and
-- nothing else; with the same written content
pub record ReadsAs (doc : List ℕ) (room : Room) (name : List ℕ) (c : Item) : Type 0 where
  pub tables : Tables Shown
  pub accepts : read doc room ≡ accepted tables
  pub silent : tables.warnings ≡ []
  pub gives : rows_shown doc (texts tables.rows) (words_from 0 tables.rows) (length tables.rows) ≡ node_row ∷ interface_row name ∷ rows 2 2 c
  pub same : content_at doc (texts tables.rows) (words_from 0 tables.rows) (length tables.rows) 2 ≡ some c

-- 1. for every document, text and sound rows, every row of a method, a signal or an annotation, every valid interface name
abbrev pub ReadBack : Type 0
ReadBack =
    (document text ws : List ℕ) (n i : ℕ) →
    soundness document text ws n ≡ sound →
    among (kind_at (rows_of n ws) i) (kinds.method ∷ kinds.signal ∷ kinds.annotation ∷ []) ≡ true →
    (c : Item)
    × (content_at document text ws n i ≡ some c)
    × ((name : List ℕ) (room : Room) → interface_name name ≡ true → Fits name c room → ReadsAs (around name (written c)) room name c)

-- bytes are equal exactly when content is; where content differs, neither is the beginning of the other
pub record Told (c c' : Item) (b b' : List ℕ) : Type 0 where
  pub same : c ≡ c' → b ≡ b'
  pub tells : b ≡ b' → c ≡ c'
  pub first : (c ≡ c' → ⊥) → (r : List ℕ) → b ++ r ≡ b' → ⊥
  pub second : (c ≡ c' → ⊥) → (r : List ℕ) → b' ++ r ≡ b → ⊥

-- 2. for any two written items, an arg by itself included, from any two sound tables
abbrev pub BytesTell : Type 0
BytesTell =
    (document text ws document' text' ws' : List ℕ) (n i n' i' : ℕ) (c c' : Item) →
    soundness document text ws n ≡ sound →
    soundness document' text' ws' n' ≡ sound →
    content_at document text ws n i ≡ some c →
    content_at document' text' ws' n' i' ≡ some c' →
    Told c c' (written c) (written c')
