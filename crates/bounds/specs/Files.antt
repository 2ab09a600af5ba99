-- What is said of every file: the number of its refusal, and how much room is always enough, by its document's length and by its own.
use Rattle.std.specs.Prelude.{ℕ, ◌*◌, ◌≤◌, ◌≡◌, List, ◌∷◌, true, length}
use Rattle.slices.specs.Bytes.{all}
use Rattle.answers.specs.Text.{text}
use Rattle.utf16.specs.Promises.{is_byte}
use Rattle.document.specs.Tags.{Shown}
use Rattle.document.specs.Elements.{among}
use Rattle.document.specs.Reading.{State, begun, reading, accepted, refused}
use Rattle.document.specs.Whole.{Room, meaning}
use Rattle.document.specs.declared.Refusal.{Refusal}
use Rattle.files.specs.Files.{document_of, read_file}
use Rattle.bounds.specs.Bounds.{lent_refusals}

-- with 26 and 27, of decoding
abbrev pub file_refusals : List ℕ
file_refusals = 26 ∷ 27 ∷ lent_refusals

-- accepted, or refused by one of these numbers
abbrev pub Numbered : State Shown → Type 0
Numbered begun = ⊥
Numbered (reading fs u) = ⊥
Numbered (accepted u) = Unit {0}
Numbered (refused x) = among x.number file_refusals ≡ true

abbrev pub FilesNumbered : Type 0
FilesNumbered = (raw : List ℕ) (r : Room) (decoding_room : ℕ) → Numbered (read_file raw r decoding_room)

-- the room that is always enough for a document is enough for the file that it was decoded from
abbrev pub DocumentRoom : Type 0
DocumentRoom =
    (raw t : List ℕ) (r : Room) (decoding_room : ℕ) →
    document_of raw decoding_room ≡ text t →
    4 * length t ≤ r.rows →
    length t ≤ r.warnings →
    length t ≤ r.text →
    read_file raw r decoding_room ≡ meaning t

-- 3/2 of it is for every file of that length: no buffer is too small
abbrev pub FileRoom : Type 0
FileRoom =
    (raw : List ℕ) (r : Room) (decoding_room : ℕ) →
    all is_byte raw ≡ true →
    6 * length raw ≤ r.rows →
    3 * length raw ≤ 2 * r.warnings →
    3 * length raw ≤ 2 * r.text →
    3 * length raw ≤ 2 * decoding_room →
    (x : Refusal) → read_file raw r decoding_room ≡ refused x → x.number ≡ 18 → ⊥
