-- What came of names (docs/FORMAT.md, Sheets, The sheet program): of the document that was read of a file, of a file, of a name, of a list.
use Rattle.std.specs.Prelude.{◌≡◌, ℕ, ◌≤◌, Bool, List, [], ◌∷◌, length, take, nat_lt}
use Rattle.slices.specs.Bytes.{if}
use Rattle.document.specs.Whole.{Room, verdict_of, rows_left, warnings_left}
use Rattle.files.specs.Files.{read_file}
use Rattle.sheets.specs.declared.Counts.{Counts}
use Rattle.sheets.specs.Sheet.{Outcome, unreadable, refused, blank, sheet_of}
use Rattle.sheets.specs.Answer.{outcome_of}
use Rattle.sheets.specs.Names.{looked, more, openable}
use Rattle.sheets.specs.Lines.{printed}
use Rattle.sheets.specs.Counts.{Stands, Adds}

-- 1,024 rows, 4,096 warnings and 65,536 bytes of text; as many for what is decoded
abbrev pub program_room : Room
program_room = record { rows = 16384; warnings = 16384; text = 65536 }

abbrev pub program_decoded : ℕ
program_decoded = 65536

-- what the reader answers of a file's bytes, with these buffers
unfoldable pub document_outcome : List ℕ → Outcome
document_outcome raw =
    let s = read_file raw program_room program_decoded in
    outcome_of (verdict_of s) (rows_left program_room s) (warnings_left program_room s)

-- opening or reading failed, or so many bytes were read, of which more than 65,536 are over-long
unfoldable pub file_outcome : Bool → List ℕ → Outcome
file_outcome failed bs = let d = document_outcome bs in if failed unreadable (if (nat_lt 65536 (length bs)) (refused 2) d)

unfoldable pub name_outcome : List ℕ → Bool → List ℕ → Outcome
name_outcome n failed bs = if (openable n) (file_outcome failed bs) unreadable

-- an outcome for each name
abbrev pub Came : List (List ℕ) → List Outcome → Type 0
Came [] [] = Unit {0}
Came [] (o ∷ os) = ⊥
Came (n ∷ ns) [] = ⊥
Came (n ∷ ns) (o ∷ os) = ((failed : Bool) × (bs : List ℕ) × (o ≡ name_outcome n failed bs)) × Came ns os

-- ---- what the program's functions say

pub record AddsFile (before after : Counts) : Type 0 where
  pub failed : Bool
  pub bytes : List ℕ
  pub adds : Adds (file_outcome failed bytes) before after

pub record AddsName (n : List ℕ) (before after : Counts) : Type 0 where
  pub failed : Bool
  pub bytes : List ℕ
  pub adds : Adds (name_outcome n failed bytes) before after

-- the counts of no file become those of the names that are looked at
pub record Sums (s : List ℕ) (before after : Counts) (r : Bool) : Type 0 where
  pub told : r ≡ more s
  pub stands : Stands 0 blank before → (os : List Outcome) × Came (looked s) os × Stands (length os) (sheet_of os) after

-- the buffer begins with all that is printed for a list
pub record PrintsList (s out : List ℕ) (r : ℕ) : Type 0 where
  pub outcomes : List Outcome
  pub came : length s ≤ 262144 → Came (looked s) outcomes
  pub are : take r out ≡ printed s outcomes
