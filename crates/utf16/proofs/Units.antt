-- The units of a document, and the scalar values that they begin.
use Prim.Native.Nat.{ℕ, suc, ◌+◌, ◌-◌, ◌*◌, ◌≤◌, ◌<◌}
use mathlib.Core.Path.{◌≡◌, refl}
use mathlib.Core.List.{List, [], ◌∷◌}
use mathlib.Core.Bool.{Bool, true, false}
use borrow.Author.Rules.{rules}
use borrow.Author.Tests.{le-leb, lt-leb}
use native.Mathlib.Numerals.{add-one}
use native.Mathlib.Omega.{arith}
use lib.ListN.{length, drop, get_or, length-drop}
use lib.Seq.{drop-cons}
use Rattle.utf16.specs.Units.{unit, units, high, low, pair}
use Rattle.utf16.specs.Decode.{scalars, lone, before, rest}
use Rattle.utf16.specs.Outcome.{IsUnit, Characters}
use Rattle.std.proofs.Common.{Some, None}

-- ---- the unit at a place

module _ {raw : List ℕ} {at r : ℕ} {big : Bool} (h : r < 65536) where
  pub unit_big : big ≡ true → r ≡ get_or raw at 0 * 256 + get_or raw (at + 1) 0 → IsUnit big raw at r
  unit_big e f = record { is = rw e f; small = h }

  pub unit_little : big ≡ false → r ≡ get_or raw (at + 1) 0 * 256 + get_or raw at 0 → IsUnit big raw at r
  unit_little e f = record { is = rw e f; small = h }

units_more : (big : Bool) (raw : List ℕ) (at : ℕ) → at + 1 < length raw → units big (drop at raw) ≡ unit big (get_or raw at 0) (get_or raw (at + 1) 0) ∷ units big (drop (at + 2) raw)
units_more big raw at h =
    let i : at < length raw = omega arith in
    let j : suc at < length raw = omega arith in
    let e : at + 2 ≡ suc (suc at) = omega arith in
    rw (add-one, e, drop-cons raw at 0 i, drop-cons raw (suc at) 0 j)

units_few : (big : Bool) (l : List ℕ) → length l ≤ 1 → units big l ≡ []
units_few big [] h = refl
units_few big (a ∷ []) h = refl
units_few big (a ∷ b ∷ l) h = absurd (omega arith)

units_none : (big : Bool) (raw : List ℕ) (at : ℕ) → length raw ≤ at + 1 → units big (drop at raw) ≡ []
units_none big raw at h = units_few big (drop at raw) (rw length-drop (omega arith))

-- ---- the classes of units

module _ (u : ℕ) where
  high_below : u < 0xd800 → high u ≡ false
  high_below h = rw (lt-leb 0xd800 u h)

  high_above : 0xdbff < u → high u ≡ false
  high_above h = rw (le-leb 0xd800 u (omega arith), lt-leb u 0xdbff h)

  high_is : 0xd800 ≤ u → u ≤ 0xdbff → high u ≡ true
  high_is h k = rw (le-leb 0xd800 u h, le-leb u 0xdbff k)

  low_below : u < 0xdc00 → low u ≡ false
  low_below h = rw (lt-leb 0xdc00 u h)

  low_above : 0xdfff < u → low u ≡ false
  low_above h = rw (le-leb 0xdc00 u (omega arith), lt-leb u 0xdfff h)

  low-is : 0xdc00 ≤ u → u ≤ 0xdfff → low u ≡ true
  low-is h k = rw (le-leb 0xdc00 u h, le-leb u 0xdfff k)

-- ---- the scalar value at a place

pub rest_none : (big : Bool) (raw : List ℕ) (at : ℕ) → length raw ≤ at + 1 → rest big raw at ≡ scalars []
unfolding rest
rest_none big raw at h = rw (units_none big raw at h)

module _ {raw : List ℕ} {at u : ℕ} {big : Bool} (h : at + 1 < length raw) (c : IsUnit big raw at u) where
  rest_one : high u ≡ false → low u ≡ false → rest big raw at ≡ before (u ∷ []) (rest big raw (at + 2))
  unfolding rest
  rest_one e f = rw (units_more big raw at h, ← c.is, e, f)

  rest_low : high u ≡ false → low u ≡ true → rest big raw at ≡ lone at
  unfolding rest
  rest_low e f = rw (units_more big raw at h, ← c.is, e, f)

  rest_end : high u ≡ true → length raw ≤ at + 2 + 1 → rest big raw at ≡ lone at
  unfolding rest
  rest_end e k = rw (units_more big raw at h, ← c.is, e, units_none big raw (at + 2) k)

  module _ {v : ℕ} (e : high u ≡ true) (k : at + 2 + 1 < length raw) (d : IsUnit big raw (at + 2) v) where
    rest_alone : low v ≡ false → rest big raw at ≡ lone at
    unfolding rest
    rest_alone f = rw (units_more big raw at h, ← c.is, e, units_more big raw (at + 2) k, ← d.is, f)

    rest_pair : low v ≡ true → rest big raw at ≡ before (pair u v ∷ []) (rest big raw (at + 4))
    unfolding rest
    rest_pair f =
        let n : at + 2 + 2 ≡ at + 4 = omega arith in
        rw (units_more big raw at h, ← c.is, e, units_more big raw (at + 2) k, ← d.is, f, n)

  pub rest_ascii : u < 128 → rest big raw at ≡ before (u ∷ []) (rest big raw (at + 2))
  rest_ascii k = rest_one (high_below u (omega arith)) (low_below u (omega arith))

  pub character_below : u < 0xd800 → Characters big raw at (Some (record { code = u; next = at + 2 }))
  character_below k = record { is = (rest_one (high_below u k) (low_below u (omega arith)), omega arith, omega arith, omega arith) }

  pub character_above : 0xdfff < u → Characters big raw at (Some (record { code = u; next = at + 2 }))
  character_above k = record { is = (rest_one (high_above u (omega arith)) (low_above u k), omega arith, omega arith, omega (arith, c.small)) }

  pub character_low : 0xdbff < u → u ≤ 0xdfff → Characters big raw at None
  character_low k l = record { is = rest_low (high_above u k) (low-is u (omega arith) l) }

  module _ (k : 0xd800 ≤ u) (l : u ≤ 0xdbff) where
    pub character_end : length raw ≤ at + 2 + 1 → Characters big raw at None
    character_end m = record { is = rest_end (high_is u k l) m }

    module _ {v : ℕ} (m : at + 2 + 1 < length raw) (d : IsUnit big raw (at + 2) v) where
      pub character_below_low : v < 0xdc00 → Characters big raw at None
      character_below_low p = record { is = rest_alone (high_is u k l) m d (low_below v p) }

      pub character_above_low : 0xdfff < v → Characters big raw at None
      character_above_low p = record { is = rest_alone (high_is u k l) m d (low_above v p) }

      pub character_pair : 0xdc00 ≤ v → v ≤ 0xdfff → Characters big raw at (Some (record { code = 0x10000 + (u - 0xd800) * 0x400 + (v - 0xdc00); next = at + 4 }))
      character_pair p q = record { is = (rest_pair (high_is u k l) m d (low-is v p q), omega arith, omega arith, omega arith) }

pub ruleset characters = (unit_big, unit_little, character_below, character_above, character_low, character_end, character_below_low, character_above_low, character_pair, rules)
