-- Worked values: three rows, their columns and the way back; each refusal; no rows; what follows the words.
use Rattle.std.specs.Prelude.{◌≡◌, ℕ, zero, suc, List, [], ◌∷◌, ◌++◌, replicate, refl}
use Rattle.columns.specs.Words.{columns_of, rows_of}
use Rattle.columns.specs.Entries.{refused, to_columns, to_rows, words_left}

abbrev pub row : ℕ → ℕ → List ℕ
row a b = a ∷ b ∷ replicate 14 7

-- n columns of 7, 7, 7
abbrev pub sevens : ℕ → List ℕ
sevens zero = []
sevens (suc n) = 7 ∷ 0 ∷ 0 ∷ sevens n

abbrev pub three_rows : List ℕ
three_rows = row 10 20 ++ row 12 19 ++ row 15 4294967295

abbrev pub three_columns : List ℕ
three_columns = 10 ∷ 2 ∷ 3 ∷ 20 ∷ 4294967295 ∷ 4294967276 ∷ sevens 14

pub worked : columns_of 3 three_rows ≡ three_columns
unfolding columns_of
worked = refl

pub worked_back : rows_of 3 three_columns ≡ three_rows
unfolding rows_of
worked_back = refl

-- too many rows are refused first, whatever the buffers
pub worked_many : to_columns 262145 [] 0 ≡ refused 30 262144
unfolding to_columns
worked_many = refl

-- the source is too short, and the room
pub worked_short : to_columns 3 (replicate 47 0) 48 ≡ refused 18 3
unfolding to_columns
worked_short = refl

pub worked_room : to_rows 3 three_columns 47 ≡ refused 18 3
unfolding to_rows
worked_room = refl

-- no rows: all is zeros
pub worked_none : words_left 2 (to_columns 0 (5 ∷ []) 2) ≡ 0 ∷ 0 ∷ []
unfolding to_columns columns_of
worked_none = refl

-- the source's rest is not looked at, and the room's is zeros
pub worked_rest : words_left 50 (to_columns 3 (three_rows ++ 1 ∷ 2 ∷ []) 50) ≡ three_columns ++ 0 ∷ 0 ∷ []
unfolding to_columns columns_of
worked_rest = refl
