-- What a loop over a run of bytes says: where the run ends.
use Rattle.std.specs.Prelude.{◌≡◌, ℕ, ◌+◌, ◌<◌, ◌≤◌, Bool, true, false, List, length, drop, ◌≢◌, slice_index}
use Rattle.slices.specs.Bytes.{span}

-- r is the end of the run of a class that begins at a place
pub record Run (p : ℕ → Bool) (s : List ℕ) (from r : ℕ) : Type 0 where
  pub ends : r ≡ from + length (span p (drop from s))
  pub onward : from ≤ r
  pub within : r ≤ length s

-- what a test of bytes answers is what a class says of them
abbrev pub Tells : (ℕ → Bool → Type 0) → (ℕ → Bool) → Type 0
Tells answers p = (b : ℕ) (r : Bool) → b < 256 → answers b r → r ≡ p b

-- each place up to r lies in a block of n bytes of whose place a test answers true
pub record Blocks (answers : ℕ → Bool → Type 0) (s : List ℕ) (from n r : ℕ) : Type 0 where
  pub onward : from ≤ r
  pub within : r ≤ length s
  pub each : (i : ℕ) → from ≤ i → i < r → (at : ℕ) × (at ≤ i) × (i < at + n) × (at + n ≤ length s) × answers at true

-- where r is false, none of the n bytes from a place is b
pub record Told (s : List ℕ) (from n b : ℕ) (r : Bool) : Type 0 where
  pub none : r ≡ false → (i : ℕ) → i < n → slice_index s (from + i) ≢ b

-- no byte from a place up to r is b
pub record Without (s : List ℕ) (b from r : ℕ) : Type 0 where
  pub onward : from ≤ r
  pub within : r ≤ length s
  pub none : (i : ℕ) → from ≤ i → i < r → slice_index s i ≢ b

-- no byte from a place up to r is b, and b stands at r where that is before the end
pub record Sought (s : List ℕ) (b from end r : ℕ) : Type 0 where
  pub without : Without s b from r
  pub found : r < end → slice_index s r ≡ b
