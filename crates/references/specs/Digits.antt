-- Digits by their base.
use Rattle.std.specs.Prelude.{ℕ, ◌≤◌, Bool, eqb}
use Rattle.slices.specs.Bytes.{if, digit}
use Rattle.references.specs.Unescape.{hex_digit}

-- of base 16, or of 10
abbrev pub digit_in : ℕ → ℕ → Bool
digit_in base b = if (eqb base 16) (hex_digit b) (digit b)

-- a base that is no 0 and no more than 16
pub record Base (base : ℕ) : Type 0 where
  pub least : 1 ≤ base
  pub most : base ≤ 16
