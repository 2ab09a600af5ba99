-- What the functions that put lines into a buffer say.
use Rattle.std.specs.Prelude.{◌≡◌, ℕ, ◌+◌, ◌≤◌, Bool, List, [], ◌∷◌, ◌++◌, take, slice_index}
use Rattle.answers.specs.Puts.{Puts}
use Rattle.sheets.specs.declared.Counts.{Counts}
use Rattle.sheets.specs.Sheet.{Sheet}
use Rattle.sheets.specs.Lines.{decimal, spaced, lines_by, lines_of, more_line}
use Rattle.sheets.specs.Counts.{Stands}

-- bytes are put at a count, at most so many
pub record PutsFew (most : ℕ) (ys : List ℕ) (n : ℕ) (before after : List ℕ) (r : ℕ) : Type 0 where
  pub puts : Puts ys n before after r
  pub few : r ≤ n + most

-- the line of the files, whose counts these are
abbrev pub files_of : Counts → List ℕ
files_of c = decimal c.accepted ++ (spaced c.refused ++ (spaced c.unreadable ++ (10 ∷ [])))

abbrev pub all_lines : Counts → List ℕ
all_lines c = lines_by 114 (slice_index c.numbers) ++ (lines_by 107 (slice_index c.kinds) ++ lines_by 119 (slice_index c.reasons))

-- the lines of the sheet that the counts stand for are at the start of the buffer, r bytes
pub record Prints (c : Counts) (more : Bool) (after : List ℕ) (r : ℕ) : Type 0 where
  pub are : (n : ℕ) (s : Sheet) → Stands n s c → take r after ≡ lines_of s ++ more_line more
