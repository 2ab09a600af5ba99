-- What the functions on units say.
use Rattle.std.specs.Prelude.{ℕ, ◌+◌, ◌*◌, ◌≤◌, ◌<◌, ◌≡◌, List, [], ◌∷◌, Bool, true, false, length, get_or, Option, Some, None, Result, Ok, Err}
use Rattle.slices.specs.Bytes.{if}
use Rattle.answers.specs.Puts.{Puts}
use Rattle.utf16.specs.Units.{unit}
use Rattle.utf16.specs.Decode.{scalars, lone, before, rest, in_bytes}
use Rattle.utf16.specs.declared.Scalar.{Scalar}
use Rattle.utf16.specs.declared.Step.{Step}

-- r is the unit at a place
pub record IsUnit (big : Bool) (raw : List ℕ) (at r : ℕ) : Type 0 where
  pub is : r ≡ unit big (get_or raw at 0) (get_or raw (at + 1) 0)
  pub small : r < 65536

-- the scalar value at a place, and the place after it; or a surrogate alone
abbrev pub IsCharacter : Bool → List ℕ → ℕ → Option Scalar → Type 0
IsCharacter big raw at (Some s) = (rest big raw at ≡ before (s.code ∷ []) (rest big raw s.next)) × (at + 2 ≤ s.next) × (s.next ≤ length raw) × (s.code < 1114112)
IsCharacter big raw at None = rest big raw at ≡ lone at

pub record Characters (big : Bool) (raw : List ℕ) (at : ℕ) (r : Option Scalar) : Type 0 where
  pub is : IsCharacter big raw at r

-- what stands from a place up to another is decoded, put at a count, and counted
pub record Decodes (big : Bool) (raw : List ℕ) (from m : ℕ) (out out' : List ℕ) (at n : ℕ) : Type 0 where
  pub done : List ℕ
  pub left : rest big raw from ≡ before done (rest big raw at)
  pub puts : Puts (in_bytes done) m out out' n
  pub most : n + 2 * from ≤ m + 2 * at
  pub onward : from ≤ at
  pub inside : at ≤ length raw
  pub same : length out' ≡ length out

-- where the answer is no, none was above its limit, and neither is this byte
pub record Exceeds (over : Bool) (b limit : ℕ) (r : Bool) : Type 0 where
  pub is : r ≡ false → (over ≡ false) × (b ≤ limit)

-- of k units from a place no first byte is above a limit, and no second byte above another
pub record Below (raw : List ℕ) (from k first second : ℕ) : Type 0 where
  pub each : (i : ℕ) → i < k → (get_or raw (from + i * 2) 0 ≤ first) × (get_or raw (from + i * 2 + 1) 0 ≤ second)

pub record Limited (raw : List ℕ) (from first second : ℕ) (r : Bool) : Type 0 where
  pub is : r ≡ true → Below raw from 32 first second

-- the place of the less significant byte of the unit at a place
abbrev pub low_byte : Bool → ℕ → ℕ
low_byte big at = if big (at + 1) at

-- 32 units stand at a place, all of them below 128
pub record Block (big : Bool) (raw : List ℕ) (at : ℕ) : Type 0 where
  pub inside : at + 64 ≤ length raw
  pub units : (i : ℕ) → i < 32 → IsUnit big raw (at + i * 2) (get_or raw (low_byte big at + i * 2) 0)
  pub ascii : (i : ℕ) → i < 32 → get_or raw (low_byte big at + i * 2) 0 < 128

pub record IsAscii (big : Bool) (raw : List ℕ) (at : ℕ) (r : Bool) : Type 0 where
  pub is : r ≡ true → Block big raw at

-- some units are decoded and put; or the place of a surrogate alone
abbrev pub IsStep : Bool → List ℕ → ℕ → ℕ → List ℕ → List ℕ → Result Step ℕ → Type 0
IsStep big raw from m out out' (Ok s) = Decodes big raw from m out out' s.next s.count × (from < s.next)
IsStep big raw from m out out' (Err p) = rest big raw from ≡ lone p

pub record Steps (big : Bool) (raw : List ℕ) (from m : ℕ) (out out' : List ℕ) (r : Result Step ℕ) : Type 0 where
  pub is : IsStep big raw from m out out' r

-- the decoded text is put, and counted; or the place of a surrogate alone
abbrev pub IsPut : Bool → List ℕ → List ℕ → List ℕ → Result ℕ ℕ → Type 0
IsPut big raw out out' (Ok n) = (cs : List ℕ) × (rest big raw 2 ≡ scalars cs) × Puts (in_bytes cs) 0 out out' n
IsPut big raw out out' (Err p) = rest big raw 2 ≡ lone p

pub record PutsAll (big : Bool) (raw out out' : List ℕ) (r : Result ℕ ℕ) : Type 0 where
  pub is : IsPut big raw out out' r
