-- Code points: which are White_Space.
use Prim.Native.Nat.{ℕ, ◌≤◌}
use mathlib.Core.Path.{◌≡◌}
use mathlib.Core.Bool.{false}
use borrow.Author.Tests.{ne_eqb}
use Rattle.utf8.specs.WellFormed.{to}
use Rattle.utf8.specs.WhiteSpace.{white_space}
use Rattle.utf8.proofs.Sequences.{within_false}

-- a code point is none of those up to 0xa0, and of those up to 0x1680
pub record Above (x : ℕ) : Type 0 where
  pub tab : 0x9 ≤ x → x ≤ 0xd → ⊥
  pub space : x ≡ 0x20 → ⊥
  pub line : x ≡ 0x85 → ⊥
  pub joint : x ≡ 0xa0 → ⊥
  pub ogham : x ≡ 0x1680 → ⊥

-- a code point is none of them
pub record Outside (x : ℕ) : Type 0 where
  pub above : Above x
  pub quad : 0x2000 ≤ x → x ≤ 0x200a → ⊥
  pub lines : x ≡ 0x2028 → ⊥
  pub paragraph : x ≡ 0x2029 → ⊥
  pub narrow : x ≡ 0x202f → ⊥
  pub medium : x ≡ 0x205f → ⊥
  pub wide : x ≡ 0x3000 → ⊥

pub white_no : (x : ℕ) → Outside x → false ≡ white_space x
white_no x o =
    let a = o.above in
    rw (within_false (to 0x9 0xd) x a.tab, ne_eqb x 0x20 a.space, ne_eqb x 0x85 a.line, ne_eqb x 0xa0 a.joint, ne_eqb x 0x1680 a.ogham, within_false (to 0x2000 0x200a) x o.quad, ne_eqb x 0x2028 o.lines, ne_eqb x 0x2029 o.paragraph, ne_eqb x 0x202f o.narrow, ne_eqb x 0x205f o.medium, ne_eqb x 0x3000 o.wide)
