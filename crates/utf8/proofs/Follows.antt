-- What follows the first byte of a sequence, as the code looks at it: one byte after the other.
use Prim.Native.Nat.{ℕ, zero, suc, ◌+◌, ◌≤◌, ◌<◌}
use mathlib.Core.Path.{◌≡◌, refl, sym, ◌∙◌}
use mathlib.Core.List.{List, [], ◌∷◌}
use mathlib.Core.Bool.{Bool, true, false}
use borrow.Author.Rules.{rules}
use native.Mathlib.Numerals.{add-one}
use native.Mathlib.Omega.{arith}
use lib.ListN.{length, drop, get_or, drop_of_length-le}
use lib.Seq.{drop-cons, drop-nil}
use Rattle.slices.specs.Bytes.{if}
use Rattle.utf8.specs.WellFormed.{Range, to, table, within, begins, sequence}
use Rattle.utf8.specs.Sequence.{continuation, taken}
use Rattle.utf8.proofs.Sequences.{Only, Misses, rest, only, missed, below}

-- the bytes after a place, by the byte at it and those after it
begins_next : (r : Range) (rs : List Range) (s : List ℕ) (at : ℕ) → begins (r ∷ rs) (drop at s) ≡ if (begins (r ∷ []) (drop at s)) (begins rs (drop (at + 1) s)) false
begins_next r rs s at = rw (add-one at) (go at s)
  where
    either : (t u : Bool) → if t u false ≡ if (if t true false) u false
    either true u = refl
    either false u = refl

    go : (k : ℕ) (l : List ℕ) → begins (r ∷ rs) (drop k l) ≡ if (begins (r ∷ []) (drop k l)) (begins rs (drop (suc k) l)) false
    go k [] = rw (drop-nil k)
    go zero (b ∷ l) = either (within r b) (begins rs l)
    go (suc k) (b ∷ l) = go k l

is_three : (t : Bool) → if {A = ℕ} t 3 0 ≡ 3 → t ≡ true
is_three true e = refl
is_three false e = absurd (omega arith)

no_three : (t : Bool) → (if {A = ℕ} t 3 0 ≡ 3 → ⊥) → t ≡ false
no_three true e = absurd (e refl)
no_three false e = refl

-- the byte at a place is of a range: the code has looked
module _ (r : Range) (s : List ℕ) (at : ℕ) (t : Bool) (e : t ≡ begins (r ∷ []) (drop at s)) where
  pub takes_none : (rs : List Range) → t ≡ false → 0 ≡ taken (r ∷ rs) (drop at s)
  unfolding taken
  takes_none rs f = rw (begins_next r rs s at, ← e, f)

  module _ (f : t ≡ true) where
    pub byte_inside : at + 1 ≤ length s
    byte_inside = below at (length s) (λ h. omega arith) (λ h. let z : ◌≡◌ {A = ℕ} 0 1 = cc (drop_of_length-le s h) in absurd (omega arith))

    begins_more : (rs : List Range) (u : Bool) → u ≡ begins rs (drop (at + 1) s) → begins (r ∷ rs) (drop at s) ≡ u
    begins_more rs u g = rw (begins_next r rs s at, ← e, f) (sym g)

    module _ (u : Bool) (g : u ≡ begins (continuation ∷ []) (drop (at + 1) s)) where
      pub takes_three : u ≡ true → 3 ≡ taken (r ∷ continuation ∷ []) (drop at s)
      unfolding taken
      takes_three k = rw (begins_more (continuation ∷ []) u g, k)

      pub takes_no_three : u ≡ false → 0 ≡ taken (r ∷ continuation ∷ []) (drop at s)
      unfolding taken
      takes_no_three k = rw (begins_more (continuation ∷ []) u g, k)

    module _ (n : ℕ) (g : n ≡ taken (continuation ∷ continuation ∷ []) (drop (at + 1) s)) where
      pub takes_four : n ≡ 3 → 4 ≡ taken (r ∷ continuation ∷ continuation ∷ []) (drop at s)
      unfolding taken
      takes_four k = rw (begins_more (continuation ∷ continuation ∷ []) true (sym (is_three _ (sym (sym k ∙ g)))))

      pub takes_no_four : (n ≡ 3 → ⊥) → 0 ≡ taken (r ∷ continuation ∷ continuation ∷ []) (drop at s)
      unfolding taken
      takes_no_four k = rw (begins_more (continuation ∷ continuation ∷ []) false (sym (no_three _ (λ q. k (g ∙ q)))))

pub ruleset takes = (takes_none, byte_inside, takes_three, takes_no_three, takes_four, takes_no_four, rules)

-- the row that the first byte picks
module _ (s : List ℕ) (at : ℕ) (h : at < length s) where
  by_row : (n : ℕ) → Only n table (get_or s at 0) → sequence (drop at s) ≡ taken (rest n table) (drop (at + 1) s)
  unfolding sequence
  by_row n o = rw (drop-cons s at 0 h, add-one at) (only n table (get_or s at 0) (drop (suc at) s) o)

  pub first_ascii : get_or s at 0 < 0x80 → 1 ≡ sequence (drop at s)
  unfolding taken
  first_ascii l = sym (by_row 0 (omega arith))

  no_row : Misses table (get_or s at 0) → 0 ≡ sequence (drop at s)
  unfolding sequence
  no_row m = rw (drop-cons s at 0 h) (sym (missed table (get_or s at 0) (drop (suc at) s) m))

  pub first-none : 0x80 ≤ get_or s at 0 → get_or s at 0 < 0xc2 → 0 ≡ sequence (drop at s)
  first-none l g = no_row (omega arith)

  pub first_past : 0xf5 ≤ get_or s at 0 → 0 ≡ sequence (drop at s)
  first_past l = no_row (omega arith)

  module _ (t : Bool) (e : t ≡ begins (continuation ∷ []) (drop (at + 1) s)) (l : 0xc2 ≤ get_or s at 0) (g : get_or s at 0 < 0xe0) where
    pub first_two : t ≡ true → 2 ≡ sequence (drop at s)
    unfolding taken
    first_two k = rw (by_row 1 (omega arith), ← e, k)

    pub first_no_two : t ≡ false → 0 ≡ sequence (drop at s)
    unfolding taken
    first_no_two k = rw (by_row 1 (omega arith), ← e, k)

  module _ (n : ℕ) where
    pub first_e0 : n ≡ taken (to 0xa0 0xbf ∷ continuation ∷ []) (drop (at + 1) s) → get_or s at 0 ≡ 0xe0 → n ≡ sequence (drop at s)
    first_e0 e l = e ∙ sym (by_row 2 (omega arith))

    pub first_ed : n ≡ taken (to 0x80 0x9f ∷ continuation ∷ []) (drop (at + 1) s) → get_or s at 0 ≡ 0xed → n ≡ sequence (drop at s)
    first_ed e l = e ∙ sym (by_row 4 (omega arith))

    pub first_three : n ≡ taken (continuation ∷ continuation ∷ []) (drop (at + 1) s) → 0xe0 ≤ get_or s at 0 → get_or s at 0 < 0xf0 → (get_or s at 0 ≡ 0xe0 → ⊥) → (get_or s at 0 ≡ 0xed → ⊥) → n ≡ sequence (drop at s)
    first_three e l g p q =
        below (get_or s at 0) 0xed (λ k. e ∙ sym (by_row 3 (omega arith))) (λ k. e ∙ sym (by_row 5 (omega arith)))

    pub first_f0 : n ≡ taken (to 0x90 0xbf ∷ continuation ∷ continuation ∷ []) (drop (at + 1) s) → get_or s at 0 ≡ 0xf0 → n ≡ sequence (drop at s)
    first_f0 e l = e ∙ sym (by_row 6 (omega arith))

    pub first_f4 : n ≡ taken (to 0x80 0x8f ∷ continuation ∷ continuation ∷ []) (drop (at + 1) s) → get_or s at 0 ≡ 0xf4 → n ≡ sequence (drop at s)
    first_f4 e l = e ∙ sym (by_row 8 (omega arith))

    pub first_four : n ≡ taken (continuation ∷ continuation ∷ continuation ∷ []) (drop (at + 1) s) → 0xf0 ≤ get_or s at 0 → get_or s at 0 < 0xf5 → (get_or s at 0 ≡ 0xf0 → ⊥) → (get_or s at 0 ≡ 0xf4 → ⊥) → n ≡ sequence (drop at s)
    first_four e l g p q = e ∙ sym (by_row 7 (omega arith))

pub ruleset firsts = (first_ascii, first-none, first_past, first_two, first_no_two, first_e0, first_ed, first_three, first_f0, first_f4, first_four, rules)
