-- Trimming: from the start, character by character; from the end, back to the start of the last character.
use Prim.Native.Nat.{ℕ, ◌+◌, ◌≤◌, ◌<◌, ◌^◌}
use mathlib.Core.Path.{◌≡◌, refl, sym, ◌∙◌}
use mathlib.Core.List.{List, ◌++◌}
use mathlib.Core.Bool.{Bool, true, false}
use borrow.Author.Rules.{rules}
use native.Mathlib.Nat.{add-zero}
use native.Mathlib.Omega.{arith}
use mir.Syntax.{w64}
use mir.Val.{Fits}
use lib.ListN.{length, take, drop, length-drop, take-append-drop, drop_of_length-le}
use lib.Seq.{drop-drop, length-take-le}
use Rattle.slices.specs.Bytes.{if}
use Rattle.utf8.specs.WellFormed.{sequence, ill_formed}
use Rattle.utf8.specs.WhiteSpace.{characters, code_point, white_space, trim_start}
use Rattle.utf8.specs.Trim.{Boundary, Starts, white}
use Rattle.utf8.proofs.Sequences.{Char}
use Rattle.utf8.proofs.Texts.{whole_char, sequence_char, sequence_none, characters_first}
use Rattle.utf8.proofs.Cuts.{cut_start, cut_past}

-- some sequence stands first in a well-formed text that is not empty
some_first : (l : List ℕ) → ill_formed l ≡ length l → 0 < length l → sequence l ≡ 0 → ⊥
some_first l h n z = omega (arith, sequence_none l z)

-- trimming looks at the first character
trim_first : (c x : List ℕ) → Char c → trim_start (c ++ x) ≡ if (white_space (code_point c)) (length c + trim_start x) 0
unfolding trim_start
trim_first c x h = rw (characters_first c x h)

-- what stands first in a well-formed text: it is White_Space, or it is not
module _ (l : List ℕ) (h : ill_formed l ≡ length l) (k : 0 < length l) (n : ℕ) (e : n ≡ white l) where
  pub first_char : Char (take (sequence l) l) × (sequence l ≤ length l)
  first_char = sequence_char l (sequence l) refl (some_first l h k)

  pub first_long : length (take (sequence l) l) ≡ sequence l
  first_long = length-take-le (sequence l) l first_char.1

  first_trim : trim_start l ≡ if (white_space (code_point (take (sequence l) l))) (sequence l + trim_start (drop (sequence l) l)) 0
  first_trim =
      let r = trim_first (take (sequence l) l) (drop (sequence l) l) first_char.0 in
      rw (take-append-drop (sequence l) l, first_long) at r

  pub white_is : (n ≡ 0 → ⊥) → (n ≡ sequence l) × (white_space (code_point (take (sequence l) l)) ≡ true)
  unfolding white
  white_is z = go (white_space (code_point (take (sequence l) l))) refl e
    where
      go : (t : Bool) → white_space (code_point (take (sequence l) l)) ≡ t → n ≡ if t (sequence l) 0 → (n ≡ sequence l) × (white_space (code_point (take (sequence l) l)) ≡ true)
      go true p q = (q, p)
      go false p q = absurd (z q)

  pub white_is_not : n ≡ 0 → white_space (code_point (take (sequence l) l)) ≡ false
  unfolding white
  white_is_not z = go (white_space (code_point (take (sequence l) l))) refl e
    where
      go : (t : Bool) → white_space (code_point (take (sequence l) l)) ≡ t → n ≡ if t (sequence l) 0 → white_space (code_point (take (sequence l) l)) ≡ false
      go true p q = absurd (some_first l h k (sym q ∙ z))
      go false p q = p

-- trimming has come to a place: what is asked is what is left from there
pub record Trimming (s : List ℕ) (at : ℕ) : Type 0 where
  pub left : trim_start s ≡ at + trim_start (drop at s)
  pub cut : Boundary s at

pub trim_begins : {s : List ℕ} → ill_formed s ≡ length s → Trimming s 0
trim_begins {s} h = record { left = omega arith; cut = cut_start s h }

module _ {s : List ℕ} {at : ℕ} (t : Trimming s at) where
  pub trim_ends : length s ≤ at → Starts s at
  trim_ends h = record { is = sym (t.left ∙ rw (drop_of_length-le s h) (unfold trim_start characters in add-zero at)); cut = t.cut }

  module _ (h : at < length s) (n : ℕ) (e : n ≡ white (drop at s)) where
    some_left : 0 < length (drop at s)
    some_left = rw (length-drop at s) (omega arith)

    pub trim_stops : n ≡ 0 → Starts s at
    trim_stops z = record {
      is = sym (t.left ∙ rw (first_trim (drop at s) t.cut.after some_left n e, white_is_not (drop at s) t.cut.after some_left n e z) (add-zero at));
      cut = t.cut;
    }

    module _ (z : n ≡ 0 → ⊥) where
      pub trim_more : Trimming s (at + n)
      trim_more =
          let w = white_is (drop at s) t.cut.after some_left n e z in
          let c = first_char (drop at s) t.cut.after some_left n e in
          let q = first_trim (drop at s) t.cut.after some_left n e in
          let r : trim_start (drop at s) ≡ n + trim_start (drop (at + n) s) = rw (w.1, ← w.0, drop-drop n at s) at q in
          record {
            left = omega (arith, t.left, r);
            cut = cut_past s at n t.cut (omega (arith, rw (length-drop at s, ← w.0) at c.1)) (rw w.0 (whole_char c.0));
          }

      pub trim_fits : length s < 2 ^ 64 → Fits w64 (at + n)
      trim_fits g = omega (arith, trim_more.cut.inside)

pub ruleset trims = (trim_begins, trim_ends, trim_stops, trim_more, trim_fits, rules)
