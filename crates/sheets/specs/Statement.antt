-- What holds of every sheet, and what a file's outcome is in the terms of what was read.
use Rattle.std.specs.Prelude.{◌≡◌, ℕ, zero, suc, ◌+◌, ◌<◌, List, [], ◌∷◌, ◌++◌, map, length}
use Rattle.document.specs.Tags.{Shown}
use Rattle.document.specs.Rows.{Row, Warning, Tables}
use Rattle.document.specs.Reading as reading
use Rattle.document.specs.declared.Refusal.{Refusal}
use Rattle.files.specs.Files.{read_file}
use Rattle.sheets.specs.Sheet.{Outcome, unreadable, refused, accepted, sheet_of}
use Rattle.sheets.specs.Files.{program_room, program_decoded, document_outcome}

-- the three numbers of the first line add up to the names looked at
abbrev pub FilesAdd : Type 0
FilesAdd = (os : List Outcome) → (sheet_of os).accepted + (sheet_of os).refused + (sheet_of os).unreadable ≡ length os

-- f of each of the numbers before n, added up
abbrev pub total : (ℕ → ℕ) → ℕ → ℕ
total f zero = 0
total f (suc n) = total f n + f n

-- the numbers of the refusals are below m
abbrev pub Numbered : ℕ → List Outcome → Type 0
Numbered m [] = Unit {0}
Numbered m (unreadable ∷ os) = Numbered m os
Numbered m (refused n ∷ os) = (n < m) × Numbered m os
Numbered m (accepted ks ws ∷ os) = Numbered m os

-- the counts by number add up to its second number
abbrev pub RefusalsAdd : Type 0
RefusalsAdd = (m : ℕ) (os : List Outcome) → Numbered m os → total (sheet_of os).numbers m ≡ (sheet_of os).refused

-- the sheet of two lists of files has the sums of their sheets' counts
abbrev pub SheetsJoin : Type 0
SheetsJoin =
    (os ps : List Outcome) (k : ℕ) →
    ((sheet_of (os ++ ps)).accepted ≡ (sheet_of os).accepted + (sheet_of ps).accepted)
    × ((sheet_of (os ++ ps)).refused ≡ (sheet_of os).refused + (sheet_of ps).refused)
    × ((sheet_of (os ++ ps)).unreadable ≡ (sheet_of os).unreadable + (sheet_of ps).unreadable)
    × ((sheet_of (os ++ ps)).numbers k ≡ (sheet_of os).numbers k + (sheet_of ps).numbers k)
    × ((sheet_of (os ++ ps)).kinds k ≡ (sheet_of os).kinds k + (sheet_of ps).kinds k)
    × ((sheet_of (os ++ ps)).reasons k ≡ (sheet_of os).reasons k + (sheet_of ps).reasons k)

-- the kinds of the rows and the reasons of the warnings that were read, or the number of the refusal
abbrev pub DocumentAccepted : Type 0
DocumentAccepted =
    (raw : List ℕ) (t : Tables Shown) →
    read_file raw program_room program_decoded ≡ reading.accepted t →
    document_outcome raw ≡ accepted (map (λ (r : Row Shown). r.kind) t.rows) (map (λ (w : Warning). w.reason) t.warnings)

abbrev pub DocumentRefused : Type 0
DocumentRefused = (raw : List ℕ) (x : Refusal) → read_file raw program_room program_decoded ≡ reading.refused x → document_outcome raw ≡ refused x.number
