-- What the entry `decode` answers and leaves, for the room lent.
use Rattle.std.specs.Prelude.{ℕ, ◌%◌, List, [], ◌∷◌, Bool, ◌||◌, eqb, ltb, length, replicate, Option, Some, None, Result, Ok, Err}
use Rattle.slices.specs.Bytes.{if, starts}
use Rattle.answers.specs.Text.{Text, text, wrong, left_of}
use Rattle.faults.specs.Fault.{fault}
use Rattle.faults.specs.declared.Fault.{Fault}
use Rattle.utf16.specs.Decode.{rest, text_of}

-- the byte order mark, U+FEFF, in big endian and in little endian
abbrev pub big_mark : List ℕ
big_mark = 0xfe ∷ 0xff ∷ []

abbrev pub little_mark : List ℕ
little_mark = 0xff ∷ 0xfe ∷ []

abbrev pub marked : List ℕ → Bool
marked raw = starts big_mark raw || starts little_mark raw

-- 2 for the decoded text, then 18 at the document's length
abbrev pub fitting : ℕ → ℕ → Text → Text
fitting end room (text t) = if (ltb 1048576 (length t)) (wrong 2 1048576) (if (ltb room (length t)) (wrong 18 end) (text t))
fitting end room (wrong n p) = wrong n p

-- in a byte order, the mark dropped: 2, 26, 27, 2 again, 18
unfoldable pub ordered : Bool → List ℕ → ℕ → Text
ordered big raw room =
    let r = fitting (length raw) room (text_of (rest big raw 2)) in
    if (ltb 1048576 (length raw)) (wrong 2 1048576) (if (eqb (length raw % 2) 1) (wrong 26 (length raw)) r)

-- of a document that begins with a mark
unfoldable pub decoding : List ℕ → ℕ → Text
decoding raw room = ordered (starts big_mark raw) raw room

-- the decoded length, or number and place
abbrev pub answer_of : Text → Result (Option ℕ) Fault
answer_of (text t) = Ok (Some (length t))
answer_of (wrong n p) = Err (fault n p)

unfoldable pub answer : List ℕ → ℕ → Result (Option ℕ) Fault
answer raw room = let a = answer_of (decoding raw room) in if (marked raw) a (Ok None)

-- the decoded text and zeros, or zeros alone
unfoldable pub left : List ℕ → ℕ → List ℕ
left raw room = let t = left_of room (decoding raw room) in if (marked raw) t (replicate room 0)

-- an answer of `answers` as one of this crate
abbrev pub told : Result ℕ Fault → Result (Option ℕ) Fault
told (Ok n) = Ok (Some n)
told (Err f) = Err f
