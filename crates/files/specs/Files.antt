-- A file and the room lent (docs/FORMAT.md, Files in UTF-16): its document, the answer, and every word and byte of the four buffers.
use Rattle.std.specs.Prelude.{ℕ, ◌≡◌, List, eqb, length, take}
use Rattle.slices.specs.Bytes.{if}
use Rattle.answers.specs.Text.{Text, text, wrong}
use Rattle.utf16.specs.Entry.{marked, decoding, left}
use Rattle.document.specs.Tags.{Shown}
use Rattle.document.specs.Refusals.{bare}
use Rattle.document.specs.Reading.{State, refused}
use Rattle.document.specs.Whole.{Room, read, verdict_of, rows_left, warnings_left, text_left}
use Rattle.files.specs.declared.Reading.{Reading}

-- the document of a file: what it decodes to with so much room for the text if it begins with a mark, else the file itself
unfoldable pub document_of : List ℕ → ℕ → Text
document_of raw room = let t = decoding raw room in if (marked raw) t (text raw)

-- a document is read; one that cannot be decoded is refused by that number, at that place
abbrev pub read_text : Text → Room → State Shown
read_text (text t) r = read t r
read_text (wrong n p) r = refused (bare n p)

unfoldable pub read_file : List ℕ → Room → ℕ → State Shown
read_file raw r room = read_text (document_of raw room) r

-- how many bytes were decoded: none of a file without a mark, or where decoding is refused
abbrev pub length_of : Text → ℕ
length_of (text t) = length t
length_of (wrong n p) = 0

unfoldable pub decoded_length : List ℕ → ℕ → ℕ
decoded_length raw room = let n = length_of (decoding raw room) in if (marked raw) n 0

-- what reading a file with that room answers, and what it leaves in the buffers: after a refusal of the decoded text that text stands
pub record Reads (raw : List ℕ) (room : Room) (decoding_room : ℕ) (rows warnings text decoded : List ℕ) (r : Reading) : Type 0 where
  pub verdict : r.verdict ≡ verdict_of (read_file raw room decoding_room)
  pub of_rows : rows ≡ rows_left room (read_file raw room decoding_room)
  pub of_warnings : warnings ≡ warnings_left room (read_file raw room decoding_room)
  pub of_text : text ≡ text_left room (read_file raw room decoding_room)
  pub of_decoded : decoded ≡ left raw decoding_room
  pub length : r.decoded ≡ decoded_length raw decoding_room

-- the document of everything that follows: the decoded bytes that were counted; the file itself where none were
abbrev pub document_left : List ℕ → List ℕ → ℕ → List ℕ
document_left raw decoded n = if (eqb n 0) raw (take n decoded)
