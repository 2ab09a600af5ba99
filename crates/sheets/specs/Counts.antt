-- What the functions say: counts stand for a sheet.
use Rattle.std.specs.Prelude.{◌≡◌, ℕ, ◌+◌, ◌*◌, ◌^◌, ◌<◌, ◌≤◌, List, slice_index}
use Rattle.sheets.specs.declared.Counts.{Counts}
use Rattle.sheets.specs.Sheet.{Outcome, occurs, Sheet, added}

-- a table is that before with each of a list of numbers below 32 counted at its place, where no count is too large
pub record Counted (ws before after : List ℕ) : Type 0 where
  pub here : (k : ℕ) → k < 32 → slice_index before k + occurs k ws < 2 ^ 32 → slice_index after k ≡ slice_index before k + occurs k ws

-- no count is more than so many files have at 16,384 each
pub record Bounded (n : ℕ) (s : Sheet) : Type 0 where
  pub accepted : s.accepted ≤ n
  pub refused : s.refused ≤ n
  pub unreadable : s.unreadable ≤ n
  pub numbers : (k : ℕ) → s.numbers k ≤ n
  pub kinds : (k : ℕ) → s.kinds k ≤ n * 16384
  pub reasons : (k : ℕ) → s.reasons k ≤ n * 16384

-- the counts are those of a sheet of n files
pub record Stands (n : ℕ) (s : Sheet) (c : Counts) : Type 0 where
  pub bounded : Bounded n s
  pub accepted : c.accepted ≡ s.accepted
  pub refused : c.refused ≡ s.refused
  pub unreadable : c.unreadable ≡ s.unreadable
  pub numbers : (k : ℕ) → k < 32 → slice_index c.numbers k ≡ s.numbers k
  pub kinds : (k : ℕ) → k < 32 → slice_index c.kinds k ≡ s.kinds k
  pub reasons : (k : ℕ) → k < 32 → slice_index c.reasons k ≡ s.reasons k

-- what adding a file says: where the counts stood for a sheet of fewer than 512 files, they stand for it with the outcome added
pub record Adds (o : Outcome) (before after : Counts) : Type 0 where
  pub stands : (n : ℕ) (s : Sheet) → n < 512 → Stands n s before → Stands (n + 1) (added o s) after
