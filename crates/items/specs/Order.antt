-- Rows in order (docs/DECISIONS.md, What writing costs, Members and document order).
use Rattle.std.specs.Prelude.{ℕ, suc, ◌≤◌, ◌<◌, ◌≡◌, List}
use Rattle.items.specs.Words.{word_at}

-- the parent's row plus one of row i
abbrev pub parent_at : List ℕ → ℕ → ℕ
parent_at ws i = word_at ws i 1

-- among n rows, what stands in a child of row i stands before the next child
abbrev pub InOrder : List ℕ → ℕ → ℕ → Type 0
InOrder ws n i =
    (j m k : ℕ) →
    i < j →
    j < m →
    m ≤ k →
    k < n →
    parent_at ws j ≡ suc i →
    parent_at ws m ≡ suc i →
    parent_at ws k ≡ suc j →
    ⊥

-- going up from a row by parents; f k is the parent's row plus one of row k, u and w are rows plus one, and 0 is above the root:
-- w is u, or above it
pub data Under (f : ℕ → ℕ) (w : ℕ) : ℕ → Type 0 where
  itself : Under f w w
  above : {u : ℕ} → Under f w (f u) → Under f w (suc u)

-- n rows in document order: each row's parent is the row before it, which is k as a row plus one, or above that
pub record DocumentOrder (ws : List ℕ) (n : ℕ) : Type 0 where
  pub under : (k : ℕ) → k < n → Under (parent_at ws) (parent_at ws k) k
