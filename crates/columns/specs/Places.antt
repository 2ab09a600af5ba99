-- Where the words stand: places are inside, differ, and are found again from a place by division.
use Rattle.std.proofs.Common.{◌≡◌, ℕ, zero, suc, ◌+◌, ◌*◌, ◌/◌, ◌%◌, ◌<◌, ◌≤◌, length, get_or, sym, refl, ap, ◌∙◌, add-zero, mul-le-mul_right, mod-lt, mod-eq_of_lt, mul_comm, div-lt_iff_lt-mul, div-add-mod', zero-add, arith}
use native.Mathlib.Nat.{mul-add-div_right, div-eq_of_lt, mul-add-mod_self_right}
use Rattle.tables.proofs.Tables.{row_more}
use Rattle.columns.specs.Words.{listed, in_rows, in_columns, difference, restored, columns_of, rows_of}
use Rattle.columns.specs.Put.{Lays}

-- a column ends where the next begins
column_ends : (R j k : ℕ) → j < k → j * R + R ≤ k * R
column_ends R j k h =
    let l : j + 1 ≤ k = omega arith in
    rw row_more at (mul-le-mul_right R l)

pub column_before : (R k : ℕ) → k < 16 → k * R ≤ 16 * R
column_before R k h = omega (arith, column_ends R k 16 h)

pub column_inside : (R k r : ℕ) → k < 16 → r < R → in_columns R k r < R * 16
column_inside R k r h l = omega (arith, column_ends R k 16 h)

pub row_inside : (R k r : ℕ) → k < 16 → r < R → in_rows k r < R * 16
row_inside R k r h l = omega arith

-- a place is that of one word of one row: among the columns, and among the rows
module _ (R p : ℕ) (h : p < R * 16) where
  pub rows_some : 0 < R
  rows_some = omega arith

  pub column_of : p / R < 16
  column_of = (div-lt_iff_lt-mul rows_some).1 (rw mul_comm at h)

  pub row_of : p % R < R
  row_of = mod-lt p rows_some

  pub column_place : in_columns R (p / R) (p % R) ≡ p
  column_place = div-add-mod' p R

  pub row-found : p / 16 < R
  row-found = omega arith

  pub word_found : p % 16 < 16
  word_found = omega arith

  pub row_place : in_rows (p % 16) (p / 16) ≡ p
  row_place = omega arith

-- back: the column and the row of a place
module _ (R k r : ℕ) (h : r < R) where
  pub place_column : in_columns R k r / R ≡ k
  place_column = mul-add-div_right (omega arith) k r ∙ rw (div-eq_of_lt h) (add-zero k)

  pub place_row : in_columns R k r % R ≡ r
  place_row = mul-add-mod_self_right k R r ∙ mod-eq_of_lt h

-- so each word of each row has a place of its own
pub columns_apart : (R j k r s : ℕ) → j < 16 → k < 16 → r < R → s < R → in_columns R j r ≡ in_columns R k s → (j ≡ k) × (r ≡ s)
columns_apart R j k r s h b l m e =
    (sym (place_column R j r l) ∙ ap (λ (p : ℕ). p / R) e ∙ place_column R k s m, sym (place_row R j r l) ∙ ap (λ (p : ℕ). p % R) e ∙ place_row R k s m)

pub rows_apart : (R j k r s : ℕ) → j < 16 → k < 16 → r < R → s < R → in_rows j r ≡ in_rows k s → (j ≡ k) × (r ≡ s)
rows_apart R j k r s h b l m e = (omega arith, omega arith)

-- ---- lists that are told by their places

pub length-listed : (f : ℕ → ℕ) (i n : ℕ) → length (listed f i n) ≡ n
length-listed f i zero = refl
length-listed f i (suc n) = ap suc (length-listed f (suc i) n)

listed_from : (f : ℕ → ℕ) (i n p : ℕ) → p < n → get_or (listed f i n) p 0 ≡ f (i + p)
listed_from f i zero p h = absurd (omega arith)
listed_from f i (suc n) zero h = rw add-zero
listed_from f i (suc n) (suc p) h =
    let e : suc i + p ≡ i + suc p = omega arith in
    listed_from f (suc i) n p (omega arith) ∙ ap f e

pub listed_at : (f : ℕ → ℕ) (n p : ℕ) → p < n → get_or (listed f 0 n) p 0 ≡ f p
listed_at f n p h = listed_from f 0 n p h ∙ ap f (zero-add p)

-- ---- columns and rows are laid down so

pub lays_columns : Lays in_columns (λ _. difference) columns_of
unfolding columns_of
lays_columns = record {
  apart = columns_apart;
  whole = λ R xs out f. record {
    many = length-listed _ 0 (R * 16);
    holds = λ p h l.
        let i : p < R * 16 = rw length-listed at h in
        rw (column_place R p i) at (f (p / R) (p % R) (column_of R p i) (row_of R p i))
        ∙ sym (listed_at (λ (p : ℕ). difference xs (p / R) (p % R)) (R * 16) p i);
  };
}

pub lays_rows : Lays (λ _. in_rows) restored rows_of
unfolding rows_of
lays_rows = record {
  apart = rows_apart;
  whole = λ R xs out f. record {
    many = length-listed _ 0 (R * 16);
    holds = λ p h l.
        let i : p < R * 16 = rw length-listed at h in
        rw (row_place R p i) at (f (p % 16) (p / 16) (word_found R p i) (row-found R p i))
        ∙ sym (listed_at (λ (p : ℕ). restored R xs (p % 16) (p / 16)) (R * 16) p i);
  };
}
