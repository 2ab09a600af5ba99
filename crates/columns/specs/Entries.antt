-- What the entries `columns` and `rows` answer and leave, for the room lent.
use Rattle.std.specs.Prelude.{◌≡◌, ℕ, ◌-◌, ◌*◌, ◌≤◌, ◌||◌, List, ◌++◌, length, replicate, nat_lt, Result, Ok, Err}
use Rattle.slices.specs.Bytes.{if}
use Rattle.tables.specs.Table.{Rep}
use Rattle.columns.specs.Words.{columns_of, rows_of}
use Rattle.faults.specs.Fault.{fault}
use Rattle.faults.specs.declared.Fault.{Fault}

-- the words made, or a refusal's number and place
pub data Outcome : Type 0 where
  made : List ℕ → Outcome
  refused : ℕ → ℕ → Outcome

-- 30, then 18 at R where one of the two buffers has fewer than 16 times R words
abbrev pub checked : ℕ → ℕ → ℕ → List ℕ → Outcome
checked R held room ws =
    let u = if (nat_lt held (R * 16) || nat_lt room (R * 16)) (refused 18 R) (made ws) in
    if (nat_lt 262144 R) (refused 30 262144) u

unfoldable pub to_columns : ℕ → List ℕ → ℕ → Outcome
to_columns R rows room = checked R (length rows) room (columns_of R rows)

unfoldable pub to_rows : ℕ → List ℕ → ℕ → Outcome
to_rows R columns room = checked R (length columns) room (rows_of R columns)

-- a fault's number and place, or that all is done
abbrev pub answer_of : Outcome → Result (Unit {0}) Fault
answer_of (made ws) = Ok tt
answer_of (refused n p) = Err (fault n p)

-- the words and zeros, or zeros alone
abbrev pub words_left : ℕ → Outcome → List ℕ
words_left room (made ws) = ws ++ replicate (room - length ws) 0
words_left room (refused n p) = replicate room 0

-- the answer and the words left are those of an outcome, with so much room
pub record Says (o : Outcome) (room : ℕ) (out : List ℕ) (r : Result (Unit {0}) Fault) : Type 0 where
  pub answer : r ≡ answer_of o
  pub left : out ≡ words_left room o

-- they are those of what is made in the room of the buffer lent: `made` tells it for each room
pub record Makes (made : ℕ → Outcome) (lent out : List ℕ) (r : Result (Unit {0}) Fault) : Type 0 where
  pub answer : r ≡ answer_of (made (length lent))
  pub left : out ≡ words_left (length lent) (made (length lent))

-- what is said of a buffer in which n rows' words were put: they are left and zeros after them
pub record Finishes (n : ℕ) (before after : List ℕ) (r : Result (Unit {0}) Fault) : Type 0 where
  pub says : (ws : List ℕ) → Rep 16 before n ws → n * 16 ≤ length before → Says (made ws) (length before) after r

-- what a check answers: a refusal whatever the words, or R, where R rows have room
abbrev pub IsChecked : ℕ → ℕ → ℕ → Result ℕ Fault → Type 0
IsChecked R held room (Err x) = (ws : List ℕ) → checked R held room ws ≡ refused x.number x.place
IsChecked R held room (Ok n) =
    (n ≡ R) × (R ≤ 262144) × (R * 16 ≤ held) × (R * 16 ≤ room) × ((ws : List ℕ) → checked R held room ws ≡ made ws)

pub record Checks (R held room : ℕ) (r : Result ℕ Fault) : Type 0 where
  pub is : IsChecked R held room r
