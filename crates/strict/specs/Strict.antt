-- Reading by the strict profile (docs/FORMAT.md, The strict profile): a file is read as ever, and one that is accepted and whose document has a
-- breach is refused by 29 at the least.
use Rattle.std.specs.Prelude.{ℕ, ◌≡◌, List, Option, Some, None}
use Rattle.answers.specs.Text.{Text, text, wrong}
use Rattle.utf16.specs.Entry.{left}
use Rattle.document.specs.Tags.{Shown}
use Rattle.document.specs.Refusals.{bare}
use Rattle.document.specs.Reading.{State, begun, reading, accepted, refused}
use Rattle.document.specs.Whole.{Room, read, verdict_of, rows_left, warnings_left, text_left}
use Rattle.files.specs.Files.{document_of, decoded_length}
use Rattle.files.specs.declared.Reading.{Reading}
use Rattle.breaches.specs.Least.{least}
use Rattle.breaches.specs.Breaches.{breaches}

abbrev pub judged : State Shown → Option ℕ → State Shown
judged begun b = begun
judged (reading fs t) b = reading fs t
judged (accepted t) None = accepted t
judged (accepted t) (Some p) = refused (bare 29 p)
judged (refused x) b = refused x

-- a document
unfoldable pub strict : List ℕ → Room → State Shown
strict doc r = judged (read doc r) (least (breaches doc))

abbrev pub strict_text : Text → Room → State Shown
strict_text (text t) r = strict t r
strict_text (wrong n p) r = refused (bare n p)

-- a file, with so much room for the text that is decoded
unfoldable pub strict_file : List ℕ → Room → ℕ → State Shown
strict_file raw r room = strict_text (document_of raw room) r

-- what reading a file by the profile answers, and what it leaves in the buffers: after 29, too, the decoded text stands
pub record ReadsStrictly (raw : List ℕ) (room : Room) (decoding_room : ℕ) (rows warnings text decoded : List ℕ) (r : Reading) : Type 0 where
  pub verdict : r.verdict ≡ verdict_of (strict_file raw room decoding_room)
  pub of_rows : rows ≡ rows_left room (strict_file raw room decoding_room)
  pub of_warnings : warnings ≡ warnings_left room (strict_file raw room decoding_room)
  pub of_text : text ≡ text_left room (strict_file raw room decoding_room)
  pub of_decoded : decoded ≡ left raw decoding_room
  pub length : r.decoded ≡ decoded_length raw decoding_room
