-- What the tests on the text that a value shows say.
use Rattle.std.specs.Prelude.{ℕ, ◌≤◌, ◌<◌, ◌≡◌, ◌⊎◌, List, length, take}
use Rattle.std.specs.Borrow.{Bor}
use Rattle.std.specs.Fn.{Shared}
use Rattle.document.specs.Tags.{Shown}
use Rattle.document.specs.Outcome.{Held}
use Rattle.document.specs.declared.Value.{Value}

-- what unescaping a value into a buffer of 256 bytes says: the beginning of the buffer is the text, or both have more than 255 bytes
pub record Changed (doc : List ℕ) (v : Value) (buf : List ℕ) (r : ℕ) : Type 0 where
  pub inside : r ≤ length buf
  pub is : (s : Shown) → Held doc v s → (take r buf ≡ s.value) ⊎ ((255 < r) × (255 < length s.value))

-- the answer is that of a function of texts, at the text that a value shows
pub record Tests {A : Type 0} (p : List ℕ → A) (doc : List ℕ) (v : Value) (r : A) : Type 0 where
  pub is : (s : Shown) → Held doc v s → r ≡ p s.value

-- the function says d of every text of more than 255 bytes
pub record Short {A : Type 0} (p : List ℕ → A) (d : A) : Type 0 where
  pub long : (s : List ℕ) → 255 < length s → p s ≡ d

-- a test of texts answers as the function does
abbrev pub Says : {F A : Type 0} → Shared F (Bor (List ℕ) × Unit {0}) A → F → (List ℕ → A) → Type 0
Says g f p = (x : Bor (List ℕ)) (r : _) → g.post f (x, tt) r → r ≡ p x.now
