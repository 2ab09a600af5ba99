-- A lent table of rows of w words: it stands for a list, of which the rows that have room whole are in it.
-- w is 16 for rows, 4 for warnings, 1 for text.
use Rattle.std.specs.Prelude.{ℕ, zero, suc, ◌+◌, ◌*◌, ◌/◌, ◌<◌, ◌≡◌, List, [], ◌∷◌, ◌++◌, length, get_or}
use Rattle.std.proofs.lemmas.List.Edits.{sets}

-- the words of the whole rows that fit into so many words
abbrev pub whole : ℕ → ℕ → ℕ
whole w n = n / w * w

-- the words of the list that are below the room stand in the table
abbrev pub Holds : ℕ → List ℕ → List ℕ → Type 0
Holds room buf xs = (k : ℕ) → k < length xs → k < room → get_or buf k 0 ≡ get_or xs k 0

-- a table with n rows in use stands for their words
pub record Rep (w : ℕ) (buf : List ℕ) (n : ℕ) (xs : List ℕ) : Type 0 where
  pub many : length xs ≡ n * w
  pub holds : Holds (whole w (length buf)) buf xs

-- what adding a row says: it is counted, and the table stands for the words with the row's at their end
pub record Put (w : ℕ) (row : List ℕ) (n : ℕ) (before after : List ℕ) (r : ℕ) : Type 0 where
  pub counts : r ≡ n + 1
  pub stands : (xs : List ℕ) → Rep w before n xs → Rep w after r (xs ++ row)

-- the words of rows of 16 with a docstring in row i: source 1, start and length
abbrev pub with_docstring : ℕ → ℕ → ℕ → List ℕ → List ℕ
with_docstring i start len xs = sets xs (i * 16 + 11) (1 ∷ start ∷ len ∷ [])

-- what putting a docstring into row i says
pub record Documented (i start len : ℕ) (before after : List ℕ) : Type 0 where
  pub stands : (n : ℕ) (xs : List ℕ) → i < n → Rep 16 before n xs → Rep 16 after n (with_docstring i start len xs)

-- a list with one value at each place from n on
abbrev pub filled : {A : Type 0} → A → ℕ → List A → List A
filled a n [] = []
filled a zero (x ∷ xs) = a ∷ filled a zero xs
filled a (suc n) (x ∷ xs) = x ∷ filled a n xs

-- what filling from n on says
pub record Filled {A : Type 0} (a : A) (n : ℕ) (before after : List A) : Type 0 where
  pub is : after ≡ filled a n before

-- the table with a 0 at each place from n on
abbrev pub cleared : ℕ → List ℕ → List ℕ
cleared n [] = []
cleared zero (x ∷ xs) = 0 ∷ cleared zero xs
cleared (suc n) (x ∷ xs) = x ∷ cleared n xs

-- what clearing from n on says
pub record Wiped (n : ℕ) (before after : List ℕ) : Type 0 where
  pub is : after ≡ cleared n before
