-- What stands at a place of a value.
use Prim.Native.Nat.{ℕ, suc, ◌+◌, ◌-◌, ◌≤◌, ◌<◌}
use mathlib.Core.Path.{◌≡◌, sym, ◌∙◌}
use mathlib.Core.List.{List, ◌∷◌}
use mathlib.Core.Bool.{false}
use borrow.Author.Rules.{rules}
use borrow.Author.Tests.{ne_eqb}
use native.Mathlib.Numerals.{add-one}
use native.Mathlib.Omega.{arith}
use lib.ListN.{length, drop, take, get_or, length-drop, drop_of_length-le}
use lib.Seq.{drop-cons, length-take-le}
use Rattle.std.proofs.Common.{Result, Ok, Err}
use Rattle.slices.specs.Bytes.{other, empty}
use Rattle.slices.specs.Run.{Run}
use Rattle.slices.proofs.Ends.{run_span, run_rest}
use Rattle.references.specs.Unescape.{reference, referred, piece}
use Rattle.references.specs.Outcome.{reference_of, Pieces}
use Rattle.references.specs.declared.Shown.TheVariants.{Byte, Char}
use Rattle.references.proofs.Entities.{good}

some : (v : List ℕ) (end : ℕ) → end < length v → empty (drop end v) ≡ false
some v end h = rw (drop-cons v end 0 h)

-- the place after the next byte
one_on : (at : ℕ) → at + 1 - suc at ≡ 0
one_on at = omega arith

module _ (v : List ℕ) (at : ℕ) where
  -- a `&`: up to the next `;`
  module _ (b : get_or v at 0 ≡ 38) {end : ℕ} (n : Run (other 59) v (at + 1) end) where
    to_end : empty (drop end v) ≡ false → piece (get_or v at 0) (drop (suc at) v) ≡ referred (reference (take (end - (at + 1)) (drop (at + 1) v))) (suc (end - (at + 1)))
    unfolding piece
    to_end h =
        let k : length (take (end - (at + 1)) (drop (at + 1) v)) ≡ end - (at + 1) = length-take-le (end - (at + 1)) (drop (at + 1) v) (rw length-drop (omega (arith, n.within))) in
        rw (b, ← add-one at, run_rest n, h, run_span n, k)

    pub piece_unclosed : length v ≤ end → Pieces v at (Err 9)
    unfolding piece
    piece_unclosed h = record { is = rw (b, ← add-one at, run_rest n, drop_of_length-le v h) }

    module _ (h : end < length v) {r : Result ℕ ℕ} (e : reference_of r ≡ reference (take (end - (at + 1)) (drop (at + 1) v))) where
      pub piece_bad : {m : ℕ} → r ≡ Err m → Pieces v at (Err m)
      piece_bad f = record { is = to_end (some v end h) ∙ rw (← e, f) }

      pub piece_char : {c : ℕ} → r ≡ Ok c → Pieces v at (Ok (record { shown = Char c; next = end + 1 }))
      piece_char {c} f =
          let g = good (take (end - (at + 1)) (drop (at + 1) v)) c (sym e ∙ rw f) in
          let k : length (take (end - (at + 1)) (drop (at + 1) v)) ≡ end - (at + 1) = length-take-le (end - (at + 1)) (drop (at + 1) v) (rw length-drop (omega (arith, n.within))) in
          let w : end + 1 - suc at ≡ suc (end - (at + 1)) = omega (arith, n.onward) in
          record { is = (to_end (some v end h) ∙ rw (← e, f, w), omega (arith, n.onward, g.long), omega arith, g.small) }

  module _ (h : at < length v) where
    -- a CR
    module _ (b : get_or v at 0 ≡ 13) where
      pub line_last : length v ≤ at + 1 → Pieces v at (Ok (record { shown = Byte 32; next = at + 1 }))
      unfolding piece
      line_last l = record { is = (rw (b, one_on at, drop_of_length-le v (rw add-one at l)), omega arith, omega arith) }

      module _ (l : at + 1 < length v) where
        after : drop (suc at) v ≡ get_or v (at + 1) 0 ∷ drop (at + 2) v
        after = rw (← add-one at) (drop-cons v (at + 1) 0 l ∙ rw (← add-one (at + 1)) (rw e))
          where
            e : at + 1 + 1 ≡ at + 2
            e = omega arith

        pub line_pair : get_or v (at + 1) 0 ≡ 10 → Pieces v at (Ok (record { shown = Byte 32; next = at + 2 }))
        unfolding piece
        line_pair f = let w : at + 2 - suc at ≡ 1 = omega arith in record { is = (rw (b, after, f, w), omega arith, omega arith) }

        pub line_alone : (get_or v (at + 1) 0 ≡ 10 → ⊥) → Pieces v at (Ok (record { shown = Byte 32; next = at + 1 }))
        unfolding piece
        line_alone f = record { is = (rw (b, after, ne_eqb (get_or v (at + 1) 0) 10 f, one_on at), omega arith, omega arith) }

    pub piece_feed : get_or v at 0 ≡ 10 → Pieces v at (Ok (record { shown = Byte 32; next = at + 1 }))
    unfolding piece
    piece_feed b = record { is = (rw (b, one_on at), omega arith, omega arith) }

    pub piece_tab : get_or v at 0 ≡ 9 → Pieces v at (Ok (record { shown = Byte 32; next = at + 1 }))
    unfolding piece
    piece_tab b = record { is = (rw (b, one_on at), omega arith, omega arith) }

    pub piece_byte : (get_or v at 0 ≡ 38 → ⊥) → (get_or v at 0 ≡ 13 → ⊥) → (get_or v at 0 ≡ 10 → ⊥) → (get_or v at 0 ≡ 9 → ⊥) → Pieces v at (Ok (record { shown = Byte (get_or v at 0); next = at + 1 }))
    unfolding piece
    piece_byte e f g i =
        let b = get_or v at 0 in
        record { is = (rw (ne_eqb b 38 e, ne_eqb b 13 f, ne_eqb b 10 g, ne_eqb b 9 i, one_on at), omega arith, omega arith) }

pub ruleset pieces = (piece_unclosed, piece_bad, piece_char, line_last, line_pair, line_alone, piece_feed, piece_tab, piece_byte, rules)
