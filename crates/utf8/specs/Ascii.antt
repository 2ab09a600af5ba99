-- Runs of bytes below 128.
use Rattle.std.specs.Prelude.{ℕ, ◌+◌, ◌≤◌, ◌<◌, Bool, ltb, List, length, get_or}

-- a byte below 128
abbrev pub ascii : ℕ → Bool
ascii b = ltb b 128

-- none of the n bytes from a place is larger than m
pub record AtMost (s : List ℕ) (from n m : ℕ) : Type 0 where
  pub least : (i : ℕ) → i < n → get_or s (from + i) 0 ≤ m

-- the bytes from a place up to another are below 128
pub record Ascii (s : List ℕ) (from r : ℕ) : Type 0 where
  pub onward : from ≤ r
  pub inside : r ≤ length s
  pub low : (i : ℕ) → from ≤ i → i < r → get_or s i 0 < 128
