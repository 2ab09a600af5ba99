-- Units below 128, told by the largest that each byte may be.
use Prim.Native.Nat.{ℕ, ◌+◌, ◌-◌, ◌*◌, ◌≤◌}
use mathlib.Core.Path.{◌≡◌}
use mathlib.Core.List.{List}
use mathlib.Core.Bool.{Bool, true, false}
use borrow.Author.Rules.{rules}
use native.Mathlib.Omega.{arith}
use lib.ListN.{length}
use Rattle.utf16.specs.Outcome.{Below, Limited, Block, IsAscii}

-- a loop over units, after i of them
pub record Limiting (raw : List ℕ) (from first second : ℕ) (over : Bool) (i : ℕ) : Type 0 where
  pub is : over ≡ false → Below raw from i first second

module _ {raw : List ℕ} {at : ℕ} {big : Bool} where
  pub ascii_short : IsAscii big raw at false
  ascii_short = record { is = λ e. let z : ◌≡◌ {A = ℕ} 0 1 = cc in absurd (omega arith) }

  module _ {t : Bool} (h : 64 ≤ length raw - at) where
    pub ascii_big : big ≡ true → Limited raw at 0 127 t → IsAscii big raw at t
    ascii_big f l = record { is = λ e. rw f (is_big (l.is e)) }
      where
        is_big : Below raw at 32 0 127 → Block true raw at
        is_big b = record {
          inside = omega arith;
          units = λ i k.
              let z = b.each i k in
              let e : at + 1 + i * 2 ≡ at + i * 2 + 1 = omega arith in
              rw e record { is = omega (arith, z.0); small = omega (arith, z.1) };
          ascii = λ i k. let z = b.each i k in let e : at + 1 + i * 2 ≡ at + i * 2 + 1 = omega arith in rw e (omega (arith, z.1));
        }

    pub ascii_little : big ≡ false → Limited raw at 127 0 t → IsAscii big raw at t
    ascii_little f l = record { is = λ e. rw f (is_little (l.is e)) }
      where
        is_little : Below raw at 32 127 0 → Block false raw at
        is_little b = record {
          inside = omega arith;
          units = λ i k. let z = b.each i k in record { is = omega (arith, z.1); small = omega (arith, z.0) };
          ascii = λ i k. let z = b.each i k in omega (arith, z.0);
        }

pub ruleset asciis = (ascii_short, ascii_big, ascii_little, rules)
