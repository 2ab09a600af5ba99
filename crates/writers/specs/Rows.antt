-- Rows of a table by their numbers, and what the functions that look for children say.
use Rattle.std.specs.Prelude.{ℕ, suc, ◌+◌, ◌-◌, ◌*◌, ◌≤◌, ◌<◌, ◌≡◌, List, [], ◌∷◌, Bool, true, false, not, ◌&&◌, ◌||◌, eqb, ltb, length, drop}
use Rattle.slices.specs.Bytes.{if}
use Rattle.document.specs.Kinds as kinds
use Rattle.items.specs.Words.{RowWords, word_at, row_of, rows_of, is_child, rows_shown}
use Rattle.items.specs.Content.{Row}
use Rattle.items.specs.Order.{InOrder}

-- the k rows from row i on
abbrev pub words_in : List ℕ → ℕ → ℕ → List RowWords
words_in ws i k = rows_of k (drop (i * 16) ws)

abbrev pub rows_in : List ℕ → List ℕ → List ℕ → ℕ → ℕ → List Row
rows_in d x ws i k = rows_shown d x (drop (i * 16) ws) k

-- n rows are held, and each parent comes before
pub record Held (ws : List ℕ) (n : ℕ) : Type 0 where
  pub few : n ≤ 262144
  pub held : n * 16 ≤ length ws
  pub parents : (k : ℕ) → k < n → word_at ws k 1 ≤ k

-- row i is held
pub record RowHeld (ws : List ℕ) (i : ℕ) : Type 0 where
  pub few : i < 262144
  pub held : i * 16 + 16 ≤ length ws

abbrev pub any_child : ℕ → ℕ → List RowWords → Bool
any_child k p [] = false
any_child k p (r ∷ rs) = let t = any_child k p rs in if (is_child k p r.kind r.parent) true t

-- whether row i is a child
pub record Child (ws : List ℕ) (kind p i : ℕ) (r : Bool) : Type 0 where
  pub is : r ≡ is_child kind p (row_of (drop (i * 16) ws)).kind (row_of (drop (i * 16) ws)).parent

-- whether a row from one on up to another is a child
pub record SomeChild (ws : List ℕ) (kind p from to : ℕ) (r : Bool) : Type 0 where
  pub is : r ≡ any_child kind p (words_in ws from (to - from))

-- whether an arg or an annotation of row p less one is among the rows from row p on
pub record SomeChildren (ws : List ℕ) (p to : ℕ) (r : Bool) : Type 0 where
  pub is : r ≡ any_child kinds.arg p (words_in ws p (to - p)) || any_child kinds.annotation p (words_in ws p (to - p))

-- r is the first row from a row on whose parent's row plus one is p, or the end
pub record NextChild (ws : List ℕ) (p from to r : ℕ) : Type 0 where
  pub onward : from ≤ r
  pub within : r ≤ to
  pub none : (k : ℕ) → from ≤ k → k < r → word_at ws k 1 ≡ p → ⊥
  pub is : r < to → word_at ws r 1 ≡ p

-- no row from row r on is a child of row i
pub record Last (ws : List ℕ) (n i r : ℕ) : Type 0 where
  pub onward : i < r
  pub within : r ≤ n
  pub none : (k : ℕ) → r ≤ k → k < n → word_at ws k 1 ≡ suc i → ⊥

-- whether the children of row i are in order
pub record Ordered (ws : List ℕ) (n i : ℕ) (r : Bool) : Type 0 where
  pub is : r ≡ true → InOrder ws n i
  pub exact : InOrder ws n i → r ≡ true

-- the children of row p less one are in order if `ordered` says so
pub record Orders (ws : List ℕ) (n p : ℕ) (ordered : Bool) : Type 0 where
  pub some : 0 < p
  pub order : ordered ≡ true → (i : ℕ) → p ≡ suc i → InOrder ws n i

-- and row j is one of them
pub record ChildOf (ws : List ℕ) (n p j : ℕ) (ordered : Bool) : Type 0 where
  pub orders : Orders ws n p ordered
  pub after : p ≤ j
  pub parent : word_at ws j 1 ≡ p

-- a row whose parent's row plus one is q stands in a child of row p less one that is not the last
abbrev pub strays : List ℕ → ℕ → ℕ → ℕ → Bool
strays ws p last q = ltb p q && eqb (word_at ws (q - 1) 1) p && not (eqb q (suc last))

pub record Stray (ws : List ℕ) (p last q : ℕ) (r : Bool) : Type 0 where
  pub is : r ≡ strays ws p last q

-- r is the first row after row i whose parent stands before row i, or n
pub record RunEnd (ws : List ℕ) (n i r : ℕ) : Type 0 where
  pub onward : i < r
  pub within : r ≤ n
  pub before : (k : ℕ) → i < k → k < r → i < word_at ws k 1
  pub is : r < n → word_at ws r 1 ≤ i

-- no row from row r on stands in row i, or in a row between them
pub record Reach (ws : List ℕ) (n i r : ℕ) : Type 0 where
  pub onward : i < r
  pub within : r ≤ n
  pub none : (j k : ℕ) → i ≤ j → j < r → r ≤ k → k < n → word_at ws k 1 ≡ suc j → ⊥
