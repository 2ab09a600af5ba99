-- Laws of the text of word 14.
use Prim.Native.Nat.{ℕ}
use native.Mathlib.Omega.{arith}
use mathlib.Core.Path.{◌≡◌}
use mathlib.Core.List.{[]}
use Rattle.slices.specs.Bytes.{bytes}
use mathlib.Core.Bool.{true}
use borrow.Author.Rules.{rules}
use borrow.Author.Tests.{ne_eqb, ltb-true, leb-true}
use lib.Dec.{leb, ltb}
use Rattle.slices.proofs.Runs.{and_both}
use Rattle.references.specs.Escape.{escape}
use Rattle.document.specs.Kinds as kinds
use Rattle.items.specs.Sound.{valid_word}
use Rattle.items.specs.Written.{pairs}
use Rattle.trees.specs.Written.{word_pairs}

-- ---- word 14

last_access : (w : ℕ) → valid_word kinds.property w ≡ true → (w ≡ 1 → ⊥) → (w ≡ 2 → ⊥) → w ≡ 3
last_access w v f g =
    let h = and_both (ltb 0 w) (leb w 3) v in
    omega (arith, ltb-true 0 w h.0, leb-true w 3 h.1, f, g)

last_direction : (w : ℕ) → valid_word kinds.arg w ≡ true → (w ≡ 0 → ⊥) → (w ≡ 1 → ⊥) → w ≡ 2
last_direction w v f g = omega (arith, leb-true w 2 v, f, g)

module _ (k w : ℕ) where
  pub word_read : k ≡ kinds.property → w ≡ 1 → bytes " access=\"read\"" ≡ pairs (word_pairs k w)
  unfolding escape
  word_read e f = rw (e, f)

  pub word_write : k ≡ kinds.property → w ≡ 2 → bytes " access=\"write\"" ≡ pairs (word_pairs k w)
  unfolding escape
  word_write e f = rw (e, f)

  pub word_both : valid_word k w ≡ true → k ≡ kinds.property → (w ≡ 1 → ⊥) → (w ≡ 2 → ⊥) → bytes " access=\"readwrite\"" ≡ pairs (word_pairs k w)
  unfolding escape
  word_both v e f g = rw (e, last_access w (rw e at v) f g)

  pub word_unsaid : k ≡ kinds.arg → w ≡ 0 → [] ≡ pairs (word_pairs k w)
  word_unsaid e f = rw (e, f)

  pub word_in : k ≡ kinds.arg → w ≡ 1 → bytes " direction=\"in\"" ≡ pairs (word_pairs k w)
  unfolding escape
  word_in e f = rw (e, f)

  pub word_out : valid_word k w ≡ true → k ≡ kinds.arg → (w ≡ 0 → ⊥) → (w ≡ 1 → ⊥) → bytes " direction=\"out\"" ≡ pairs (word_pairs k w)
  unfolding escape
  word_out v e f g = rw (e, last_direction w (rw e at v) f g)

  pub word_none : (k ≡ kinds.property → ⊥) → (k ≡ kinds.arg → ⊥) → [] ≡ pairs (word_pairs k w)
  word_none e f = rw (ne_eqb k kinds.property e, ne_eqb k kinds.arg f)

pub ruleset words = (word_read, word_write, word_both, word_unsaid, word_in, word_out, word_none, rules)
