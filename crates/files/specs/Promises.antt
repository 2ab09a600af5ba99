-- What is promised of every file that is read: its document is the one that what follows is handed, and how much room is always enough.
use Rattle.std.specs.Prelude.{ℕ, ◌*◌, ◌≤◌, ◌≡◌, List, [], ◌∷◌, true, false, length, Ok}
use Rattle.slices.specs.Bytes.{all}
use Rattle.answers.specs.Text.{text, wrong}
use Rattle.utf16.specs.Entry.{marked}
use Rattle.utf16.specs.Promises.{is_byte}
use Rattle.document.specs.Elements.{among}
use Rattle.document.specs.Whole.{Room, Says}
use Rattle.document.specs.Verdict.{counts}
use Rattle.files.specs.Files.{document_of, Reads, document_left}
use Rattle.files.specs.declared.Reading.{Reading}

-- a file without a mark is its document, whatever room there is
abbrev pub Unmarked : Type 0
Unmarked = (raw : List ℕ) (room : ℕ) → marked raw ≡ false → document_of raw room ≡ text raw

-- reading a file is reading its document: the same verdict, rows, warnings and text
abbrev pub ReadAsDocument : Type 0
ReadAsDocument =
    (raw t rows warnings x decoded : List ℕ) (room : Room) (decoding_room : ℕ) (r : Reading) →
    document_of raw decoding_room ≡ text t →
    Reads raw room decoding_room rows warnings x decoded r →
    Says t room rows warnings x r.verdict

-- what follows an acceptance is handed that document
abbrev pub AcceptedDocument : Type 0
AcceptedDocument =
    (raw rows warnings x decoded : List ℕ) (room : Room) (decoding_room : ℕ) (r : Reading) (n m k : ℕ) →
    Reads raw room decoding_room rows warnings x decoded r →
    r.verdict ≡ Ok (counts n m k) →
    document_of raw decoding_room ≡ text (document_left raw decoded r.decoded)

-- a file that cannot be decoded is refused by one of four numbers
abbrev pub DecodingRefused : Type 0
DecodingRefused = (raw : List ℕ) (room n p : ℕ) → document_of raw room ≡ wrong n p → among n (2 ∷ 18 ∷ 26 ∷ 27 ∷ []) ≡ true

-- a fourth buffer of 3/2 of the file's bytes is never too small
abbrev pub DecodedRoom : Type 0
DecodedRoom = (raw : List ℕ) (room p : ℕ) → all is_byte raw ≡ true → 3 * length raw ≤ 2 * room → document_of raw room ≡ wrong 18 p → ⊥
