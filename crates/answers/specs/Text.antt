-- A text or a fault: what is answered of it, and how the buffer that was lent for it is left.
use Rattle.std.specs.Prelude.{ℕ, ◌-◌, ◌≡◌, List, ◌++◌, ltb, length, replicate, Result, Ok, Err}
use Rattle.slices.specs.Bytes.{if}
use Rattle.tables.specs.Table.{Rep}
use Rattle.faults.specs.Fault.{fault}
use Rattle.faults.specs.declared.Fault.{Fault}

-- a text, or a fault's number and its place
pub data Text : Type 0 where
  text : List ℕ → Text
  wrong : ℕ → ℕ → Text

-- with so much room: 21 at the bytes needed
abbrev pub roomy : ℕ → Text → Text
roomy room (text t) = if (ltb room (length t)) (wrong 21 (length t)) (text t)
roomy room (wrong n p) = wrong n p

-- the count, or number and place
abbrev pub answer_of : Text → Result ℕ Fault
answer_of (text t) = Ok (length t)
answer_of (wrong n p) = Err (fault n p)

-- the text and zeros, or zeros alone
abbrev pub left_of : ℕ → Text → List ℕ
left_of room (text t) = t ++ replicate (room - length t) 0
left_of room (wrong n p) = replicate room 0

-- the answer and the bytes left are those of an outcome, with so much room
pub record Says (o : Text) (room : ℕ) (out : List ℕ) (r : Result ℕ Fault) : Type 0 where
  pub answer : r ≡ answer_of o
  pub left : out ≡ left_of room o

-- they are those of what is made in the room of the buffer lent: `made` tells it for each room
pub record Makes (made : ℕ → Text) (lent out : List ℕ) (r : Result ℕ Fault) : Type 0 where
  pub answer : r ≡ answer_of (made (length lent))
  pub left : out ≡ left_of (length lent) (made (length lent))

-- a buffer that stands for n bytes is left with them, or with zeros where they do not fit
pub record Finishes (n number place : ℕ) (before after : List ℕ) (r : Result ℕ Fault) : Type 0 where
  pub says : (t : List ℕ) → Rep 1 before n t → Says (if (ltb (length before) (length t)) (wrong number place) (text t)) (length before) after r
