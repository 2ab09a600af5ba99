-- What the functions that fill the output say.
use Rattle.std.specs.Prelude.{◌≡◌, ℕ, zero, suc, ◌*◌, ◌<◌, ◌≤◌, List, length, ◌≢◌, slice_index}
use Rattle.tables.specs.Table.{Rep}
use Rattle.columns.specs.Words.{in_rows, restored}

-- R rows are few enough, and both buffers have 16 times R words
pub record Roomy (R : ℕ) (source out : List ℕ) : Type 0 where
  pub few : R ≤ 262144
  pub held : R * 16 ≤ length source
  pub room : R * 16 ≤ length out

-- the rows from a on before n are some of R
pub record Block (a n R : ℕ) : Type 0 where
  pub order : a ≤ n
  pub within : n ≤ R

-- of the rows from a on before n, f k r is put at its place for each word from j on before m; every other word stays
pub record Puts (place f : ℕ → ℕ → ℕ) (j m a n : ℕ) (before after : List ℕ) : Type 0 where
  pub same : length after ≡ length before
  pub here : (k r : ℕ) → j ≤ k → k < m → a ≤ r → r < n → slice_index after (place k r) ≡ f k r
  pub other : (p : ℕ) → ((k r : ℕ) → j ≤ k → k < m → a ≤ r → r < n → p ≢ place k r) → slice_index after p ≡ slice_index before p

-- word k of the row above row r, among rows and as it is restored; 0 above row 0
abbrev pub word_above : List ℕ → ℕ → ℕ → ℕ
word_above rows k zero = 0
word_above rows k (suc r) = slice_index rows (in_rows k r)

abbrev pub restored_above : ℕ → List ℕ → ℕ → ℕ → ℕ
restored_above R columns k zero = 0
restored_above R columns k (suc r) = restored R columns k r

-- of the row above row a, f k r is put at its place for each word
pub record Below (place f : ℕ → ℕ → ℕ) (a : ℕ) (out : List ℕ) : Type 0 where
  pub above : (k r : ℕ) → k < 16 → a ≡ suc r → slice_index out (place k r) ≡ f k r

-- each word of each of R rows has a place of its own
abbrev pub Apart : (ℕ → ℕ → ℕ) → ℕ → Type 0
Apart place R = (j k r s : ℕ) → j < 16 → k < 16 → r < R → s < R → place j r ≡ place k s → (j ≡ k) × (r ≡ s)

-- places of their own, and the words that are all there once each is put at its place
pub record Lays (place : ℕ → ℕ → ℕ → ℕ) (word : ℕ → List ℕ → ℕ → ℕ → ℕ) (words : ℕ → List ℕ → List ℕ) : Type 0 where
  pub apart : (R : ℕ) → Apart (place R) R
  pub whole : (R : ℕ) (xs out : List ℕ) → ((k r : ℕ) → k < 16 → r < R → slice_index out (place R k r) ≡ word R xs k r) → Rep 16 out R (words R xs)
