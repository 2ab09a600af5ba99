-- Bytes as one number, and where among 8 bytes the first of a kind stands.
use Rattle.std.specs.Prelude.{◌≡◌, ℕ, zero, suc, ◌+◌, ◌*◌, ◌<◌, ◌≤◌, List, length, ◌≢◌, slice_index}

-- the number of k bytes, the first the lowest
unfoldable pub word_of : ℕ → (ℕ → ℕ) → ℕ
word_of zero f = 0
word_of (suc k) f = f 0 + 256 * word_of k (λ i. f (suc i))

-- r is the byte at a place, and a byte is below 256
pub record Byte (s : List ℕ) (at r : ℕ) : Type 0 where
  pub value : r ≡ slice_index s at
  pub small : r < 256
  pub bytes : (i : ℕ) → slice_index s i < 256

-- r is the number of the 8 bytes from a place
pub record Word (s : List ℕ) (at r : ℕ) : Type 0 where
  pub value : r ≡ word_of 8 (λ i. slice_index s (at + i))
  pub bytes : (i : ℕ) → slice_index s i < 256

-- of the k bytes of f, r come before the first that is below n
pub record Leads (f : ℕ → ℕ) (n k r : ℕ) : Type 0 where
  pub within : r ≤ k
  pub above : (i : ℕ) → i < r → n ≤ f i
  pub stops : r < k → f r < n

-- of the 8 bytes from a place, r come before the first that is below n
pub record Below (s : List ℕ) (at n r : ℕ) : Type 0 where
  pub within : r ≤ 8
  pub above : (i : ℕ) → i < r → n ≤ slice_index s (at + i)
  pub stops : r < 8 → slice_index s (at + r) < n

-- of the 8 bytes from a place, r come before the first that is b
pub record Equal (s : List ℕ) (at b r : ℕ) : Type 0 where
  pub within : r ≤ 8
  pub others : (i : ℕ) → i < r → slice_index s (at + i) ≢ b
  pub stops : r < 8 → slice_index s (at + r) ≡ b

-- the first r bytes of two lists are the same
pub record Agrees (a b : List ℕ) (r : ℕ) : Type 0 where
  pub within : r ≤ length b
  pub bytes : (i : ℕ) → i < r → slice_index a i ≡ slice_index b i
