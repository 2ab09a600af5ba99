-- Where the words stand, and that each of the two entries undoes the other.
use Rattle.std.proofs.Common.{◌≡◌, ℕ, zero, suc, ◌-◌, ◌*◌, ◌/◌, ◌%◌, ◌^◌, ◌<◌, ◌≤◌, List, ◌++◌, length, get_or, take, replicate, Result, Ok, Err, refl, sym, ap, ◌∙◌, arith, length-take-le, get_or-take, take_at, ext_get_or}
use native.Mathlib.Decide.{dec_lt}
use lib.ListN.{get_or-append}
use Rattle.columns.specs.Words.{in_rows, in_columns, difference, restored, columns_of, rows_of}
use Rattle.columns.specs.Entries.{checked, to_columns, to_rows, answer_of, words_left, Says, Checks}
use Rattle.columns.specs.Statement.{Words, ColumnsPlaced, RowsPlaced, RowsRestored, ColumnsRestored, EntriesUndone}
use Rattle.faults.specs.Fault.{fault}
use Rattle.faults.specs.declared.Fault.{Fault}
use Rattle.columns.proofs.Wrapped.{less_add, add_less, wrapped_small}
use Rattle.columns.proofs.Answers.{check-many, check_held, check-room, check-good}
use Rattle.columns.specs.Places.{column_inside, row_inside, place_column, place_row, column_of, row_of, column_place, row-found, word_found, row_place, length-listed, listed_at}

-- ---- places

pub columns_placed : ColumnsPlaced
unfolding columns_of
columns_placed R xs k r h l =
    listed_at (λ (p : ℕ). difference xs (p / R) (p % R)) (R * 16) (in_columns R k r) (column_inside R k r h l)
    ∙ rw (place_column R k r l, place_row R k r l)

pub rows_placed : RowsPlaced
unfolding rows_of
rows_placed R xs k r h l =
    let a : in_rows k r % 16 ≡ k = omega arith in
    let b : in_rows k r / 16 ≡ r = omega arith in
    listed_at (λ (p : ℕ). restored R xs (p % 16) (p / 16)) (R * 16) (in_rows k r) (row_inside R k r h l) ∙ rw (a, b)

pub length_columns : (R : ℕ) (xs : List ℕ) → length (columns_of R xs) ≡ R * 16
unfolding columns_of
length_columns R xs = length-listed _ 0 (R * 16)

pub length-rows : (R : ℕ) (xs : List ℕ) → length (rows_of R xs) ≡ R * 16
unfolding rows_of
length-rows R xs = length-listed _ 0 (R * 16)

-- two lists of 16 times R words that agree at each place of the columns, and of the rows
same_by_columns : (R : ℕ) (xs ys : List ℕ) → length ys ≡ R * 16 → R * 16 ≤ length xs → ((k r : ℕ) → k < 16 → r < R → get_or ys (in_columns R k r) 0 ≡ get_or xs (in_columns R k r) 0) → ys ≡ take (R * 16) xs
same_by_columns R xs ys e l h =
    ext_get_or 0 ys (take (R * 16) xs) (e ∙ sym (length-take-le (R * 16) xs l))
    (λ p b.
    let i : p < R * 16 = omega arith in
    rw (column_place R p i) at (h (p / R) (p % R) (column_of R p i) (row_of R p i)) ∙ sym (get_or-take (R * 16) xs p 0 i))

same_by_rows : (R : ℕ) (xs ys : List ℕ) → length ys ≡ R * 16 → R * 16 ≤ length xs → ((k r : ℕ) → k < 16 → r < R → get_or ys (in_rows k r) 0 ≡ get_or xs (in_rows k r) 0) → ys ≡ take (R * 16) xs
same_by_rows R xs ys e l h =
    ext_get_or 0 ys (take (R * 16) xs) (e ∙ sym (length-take-le (R * 16) xs l))
    (λ p b.
    let i : p < R * 16 = omega arith in
    rw (row_place R p i) at (h (p % 16) (p / 16) (word_found R p i) (row-found R p i)) ∙ sym (get_or-take (R * 16) xs p 0 i))

-- ---- rows after columns

module _ (R : ℕ) (xs more : List ℕ) (w : Words xs) where
  column_word : (k r : ℕ) → k < 16 → r < R → get_or (columns_of R xs ++ more) (in_columns R k r) 0 ≡ difference xs k r
  column_word k r h l =
      get_or-append (columns_of R xs) more 0 (in_columns R k r) (rw length_columns (column_inside R k r h l))
      ∙ columns_placed R xs k r h l

  row_again : (k r : ℕ) → k < 16 → r < R → restored R (columns_of R xs ++ more) k r ≡ get_or xs (in_rows k r) 0
  row_again k zero h l = column_word k 0 h l
  row_again k (suc r) h l =
      rw (row_again k r h (omega arith), column_word k (suc r) h l)
      (less_add (get_or xs (in_rows k (suc r)) 0) (get_or xs (in_rows k r) 0) (w (in_rows k (suc r))) (w (in_rows k r)))

pub rows_restored : RowsRestored
rows_restored R xs more w l =
    same_by_rows R xs (rows_of R (columns_of R xs ++ more)) (length-rows R _) l
    (λ k r h b. rows_placed R (columns_of R xs ++ more) k r h b ∙ row_again R xs more w k r h b)

-- ---- columns after rows

module _ (R : ℕ) (xs more : List ℕ) (w : Words xs) where
  row_word : (k r : ℕ) → k < 16 → r < R → get_or (rows_of R xs ++ more) (in_rows k r) 0 ≡ restored R xs k r
  row_word k r h l =
      get_or-append (rows_of R xs) more 0 (in_rows k r) (rw length-rows (row_inside R k r h l)) ∙ rows_placed R xs k r h l

  restored_small : (k r : ℕ) → restored R xs k r < 2 ^ 32
  restored_small k zero = w (in_columns R k 0)
  restored_small k (suc r) = wrapped_small _

  column_again : (k r : ℕ) → k < 16 → r < R → difference (rows_of R xs ++ more) k r ≡ get_or xs (in_columns R k r) 0
  column_again k zero h l = row_word k 0 h l
  column_again k (suc r) h l =
      rw (row_word k (suc r) h l, row_word k r h (omega arith))
      (add_less (get_or xs (in_columns R k (suc r)) 0) (restored R xs k r) (w (in_columns R k (suc r))) (restored_small k r))

pub columns_restored : ColumnsRestored
columns_restored R xs more w l =
    same_by_columns R xs (columns_of R (rows_of R xs ++ more)) (length_columns R _) l
    (λ k r h b. columns_placed R (rows_of R xs ++ more) k r h b ∙ column_again R xs more w k r h b)

-- ---- the entries

-- an entry that is done made its words, and R rows had room
module _ (R held room : ℕ) (ws : List ℕ) where
  no_refusal : (n p : ℕ) → ◌≡◌ {A = Result (Unit {0}) Fault} (Ok tt) (Err (fault n p)) → ⊥
  no_refusal n p e = cc

  done_checks : Ok tt ≡ answer_of (checked R held room ws) → Checks R held room (Ok R)
  done_checks e = go (dec_lt 262144 R) (dec_lt held (R * 16)) (dec_lt room (R * 16))
    where
      go : Dec (262144 < R) → Dec (held < R * 16) → Dec (room < R * 16) → Checks R held room (Ok R)
      go (yes a) b c = absurd (no_refusal 30 262144 (e ∙ ap answer_of ((check-many {held = held} {room = room} a).is ws)))
      go (no a) (yes b) c = absurd (no_refusal 18 R (e ∙ ap answer_of ((check_held {room = room} refl (omega arith) b).is ws)))
      go (no a) (no b) (yes c) = absurd (no_refusal 18 R (e ∙ ap answer_of ((check-room {room = room} refl (omega arith) (omega arith) c).is ws)))
      go (no a) (no b) (no c) = check-good refl (omega arith) (omega arith) (omega arith)

-- what an entry that is done leaves begins with its words
module _ (R held : ℕ) (ws out : List ℕ) (r : Result (Unit {0}) Fault) where
  leaves : Checks R held (length out) (Ok R) → Says (checked R held (length out) ws) (length out) out r → (r ≡ Ok tt) × (out ≡ ws ++ replicate (length out - length ws) 0)
  leaves c s = (s.answer ∙ ap answer_of (c.is.4 ws), s.left ∙ ap (words_left (length out)) (c.is.4 ws))

module _ (f g : ℕ → List ℕ → List ℕ) (lg : (R : ℕ) (xs : List ℕ) → length (g R xs) ≡ R * 16) (back-again : (R : ℕ) (xs more : List ℕ) → Words xs → R * 16 ≤ length xs → g R (f R xs ++ more) ≡ take (R * 16) xs) where
  undone : (R : ℕ) (xs between back : List ℕ) (r : Result (Unit {0}) Fault) → Words xs → Says (checked R (length xs) (length between) (f R xs)) (length between) between (Ok tt) → R * 16 ≤ length back → Says (checked R (length between) (length back) (g R between)) (length back) back r → (r ≡ Ok tt) × (take (R * 16) back ≡ take (R * 16) xs)
  undone R xs between back r w s l t =
      let c = done_checks R (length xs) (length between) (f R xs) s.answer in
      let m = (leaves R (length xs) (f R xs) between (Ok tt) c s).1 in
      let d : Checks R (length between) (length back) (Ok R) = check-good refl c.is.1 c.is.3 l in
      let n = leaves R (length between) (g R between) back r d t in
      let e : take (R * 16) back ≡ g R between = ap (take (R * 16)) n.1 ∙ take_at (g R between) _ (R * 16) (lg R between) in
      let q : g R between ≡ take (R * 16) xs = ap (g R) m ∙ back-again R xs _ w c.is.2 in
      (n.0, e ∙ q)

pub entries_undone : EntriesUndone
unfolding to_columns to_rows
entries_undone = (undone columns_of rows_of length-rows rows_restored, undone rows_of columns_of length_columns columns_restored)
