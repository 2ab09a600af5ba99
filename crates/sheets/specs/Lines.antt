-- The lines printed of a sheet (docs/FORMAT.md, Sheets), as bytes.
use Rattle.std.specs.Prelude.{ℕ, zero, suc, ◌+◌, ◌/◌, ◌%◌, Bool, List, [], ◌∷◌, ◌++◌, length, ◌==◌, nat_lt}
use Rattle.slices.specs.Bytes.{if, bytes}
use Rattle.sheets.specs.Sheet.{Sheet, Outcome, sheet_of}
use Rattle.sheets.specs.Names.{more}

-- a number below 10 to the f-th in decimal digits
abbrev pub digits_of : ℕ → ℕ → List ℕ
digits_of zero n = []
digits_of (suc f) n = let r = digits_of f (n / 10) ++ ((48 + n % 10) ∷ []) in if (nat_lt n 10) ((48 + n) ∷ []) r

unfoldable pub decimal : ℕ → List ℕ
decimal n = digits_of 10 n

-- a space before it
abbrev pub spaced : ℕ → List ℕ
spaced n = 32 ∷ decimal n

-- a letter, a number and how often it is counted; no line where that is 0
unfoldable pub count_line : ℕ → ℕ → ℕ → List ℕ
count_line letter k n = if (n == 0) [] ((letter ∷ []) ++ (spaced k ++ (spaced n ++ (10 ∷ []))))

-- those of m numbers from k on
abbrev pub count_lines : ℕ → (ℕ → ℕ) → ℕ → ℕ → List ℕ
count_lines letter f k zero = []
count_lines letter f k (suc m) = count_line letter k (f k) ++ count_lines letter f (suc k) m

-- every number, kind and reason is below 32
unfoldable pub lines_by : ℕ → (ℕ → ℕ) → List ℕ
lines_by letter f = count_lines letter f 0 32

-- how many files are accepted, refused and unreadable
abbrev pub files_line : Sheet → List ℕ
files_line s = decimal s.accepted ++ (spaced s.refused ++ (spaced s.unreadable ++ (10 ∷ [])))

-- the files; then `r`, `k` and `w` lines
abbrev pub lines_of : Sheet → List ℕ
lines_of s = files_line s ++ (lines_by 114 s.numbers ++ (lines_by 107 s.kinds ++ lines_by 119 s.reasons))

-- a last line where there are more names than are looked at
abbrev pub more_line : Bool → List ℕ
more_line b = if b (bytes "more" ++ (10 ∷ [])) []

-- the only line where the list is over-long
unfoldable pub long_line : List ℕ
long_line = bytes "refused 2 262144" ++ (10 ∷ [])

-- all that is printed: of a list of names, and what came of those that are looked at
abbrev pub printed : List ℕ → List Outcome → List ℕ
printed s os = let r = lines_of (sheet_of os) ++ more_line (more s) in if (nat_lt 262144 (length s)) long_line r
