-- Where the words stand, and that each of the two entries undoes the other.
use Rattle.std.specs.Prelude.{◌≡◌, ℕ, ◌*◌, ◌^◌, ◌<◌, ◌≤◌, List, ◌++◌, length, take, slice_index, Result, Ok}
use Rattle.columns.specs.Words.{in_rows, in_columns, difference, restored, columns_of, rows_of}
use Rattle.columns.specs.Entries.{Outcome, to_columns, to_rows, Says}
use Rattle.faults.specs.declared.Fault.{Fault}

-- each number of the list is a word
abbrev pub Words : List ℕ → Type 0
Words xs = (i : ℕ) → slice_index xs i < 2 ^ 32

-- word k of row r stands at k times R plus r among the columns, and at 16 times r plus k among the rows
abbrev pub ColumnsPlaced : Type 0
ColumnsPlaced =
    (R : ℕ) (xs : List ℕ) (k r : ℕ) → k < 16 → r < R → slice_index (columns_of R xs) (in_columns R k r) ≡ difference xs k r

abbrev pub RowsPlaced : Type 0
RowsPlaced =
    (R : ℕ) (xs : List ℕ) (k r : ℕ) → k < 16 → r < R → slice_index (rows_of R xs) (in_rows k r) ≡ restored R xs k r

-- either followed by the other restores the 16 times R words, whatever follows what the first made
abbrev pub RowsRestored : Type 0
RowsRestored = (R : ℕ) (xs more : List ℕ) → Words xs → R * 16 ≤ length xs → rows_of R (columns_of R xs ++ more) ≡ take (R * 16) xs

abbrev pub ColumnsRestored : Type 0
ColumnsRestored = (R : ℕ) (xs more : List ℕ) → Words xs → R * 16 ≤ length xs → columns_of R (rows_of R xs ++ more) ≡ take (R * 16) xs

-- the same in the terms of the contracts: where the first entry is done and the second one has room, that is done too and leaves the first's words
abbrev pub Undone : (ℕ → List ℕ → ℕ → Outcome) → (ℕ → List ℕ → ℕ → Outcome) → Type 0
Undone first second =
    (R : ℕ) (xs between back : List ℕ) (r : Result (Unit {0}) Fault) →
    Words xs →
    Says (first R xs (length between)) (length between) between (Ok tt) →
    R * 16 ≤ length back →
    Says (second R between (length back)) (length back) back r →
    (r ≡ Ok tt) × (take (R * 16) back ≡ take (R * 16) xs)

abbrev pub EntriesUndone : Type 0
EntriesUndone = Undone to_columns to_rows × Undone to_rows to_columns
