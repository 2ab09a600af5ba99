-- What is promised of every decoded text.
use Rattle.std.specs.Prelude.{ℕ, ◌*◌, ◌≤◌, ◌≡◌, List, Bool, true, ltb, length, take, drop, Option, Some, Result, Ok}
use Rattle.slices.specs.Bytes.{all, starts}
use Rattle.utf8.specs.WellFormed.{ill_formed}
use Rattle.answers.specs.Text.{text}
use Rattle.faults.specs.declared.Fault.{Fault}
use Rattle.utf16.specs.Units.{units, scalar_value, in_units}
use Rattle.utf16.specs.Decode.{rest, in_bytes, text_of}
use Rattle.utf16.specs.Entry.{big_mark, decoding, answer, left}

-- the documents are those of bytes
abbrev pub is_byte : ℕ → Bool
is_byte b = ltb b 256

-- a document that is decoded is the UTF-16 of scalar values, the mark apart, and the decoded text is their UTF-8
abbrev pub Same : Type 0
Same =
    (raw t : List ℕ) (room : ℕ)
    → all is_byte raw ≡ true
    → decoding raw room ≡ text t
    → (cs : List ℕ) × (all scalar_value cs ≡ true) × (units (starts big_mark raw) (drop 2 raw) ≡ in_units cs) × (t ≡ in_bytes cs)

-- the UTF-16 of scalar values has no surrogate alone: it says their UTF-8
abbrev pub Complete : Type 0
Complete =
    (big : Bool) (raw cs : List ℕ)
    → all scalar_value cs ≡ true
    → units big (drop 2 raw) ≡ in_units cs
    → text_of (rest big raw 2) ≡ text (in_bytes cs)

-- a document decodes to well-formed UTF-8
abbrev pub WellFormed : Type 0
WellFormed = (raw t : List ℕ) (room : ℕ) → all is_byte raw ≡ true → decoding raw room ≡ text t → ill_formed t ≡ length t

-- the decoded text has at most 3/2 of the document's bytes
abbrev pub Short : Type 0
Short = (raw t : List ℕ) (room : ℕ) → all is_byte raw ≡ true → decoding raw room ≡ text t → 2 * length t ≤ 3 * length raw

-- it is within the limit and the room
abbrev pub Within : Type 0
Within = (raw t : List ℕ) (room : ℕ) → decoding raw room ≡ text t → (length t ≤ 1048576) × (length t ≤ room)

-- where a length is answered, so many bytes of the buffer are the decoded text
abbrev pub Stands : Type 0
Stands =
    (raw : List ℕ) (room n : ℕ)
    → answer raw room ≡ Ok (Some n)
    → (t : List ℕ) × (decoding raw room ≡ text t) × (n ≡ length t) × (take n (left raw room) ≡ t)

-- what `decode` says of a document, in the room of the buffer lent: what it answers and leaves, and that a decoded text is well-formed
pub record DecodesWhole (raw lent out : List ℕ) (r : Result (Option ℕ) Fault) : Type 0 where
  pub answers : r ≡ answer raw (length lent)
  pub leaves : out ≡ left raw (length lent)
  pub formed : (t : List ℕ) → decoding raw (length lent) ≡ text t → ill_formed t ≡ length t
