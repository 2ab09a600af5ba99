-- Theorems on a value in two pieces: the joined pieces' escape is the joined escapes, and they show what the pieces show, joined.
use Rattle.std.specs.Prelude.{ℕ, ◌+◌, ◌-◌, ◌≤◌, ◌≡◌, List, [], ◌∷◌, ◌++◌, Bool, false, ◌&&◌, eqb, length, take, replicate, Result, Ok, Err}
use Rattle.utf8.specs.WellFormed.{ill_formed}
use Rattle.answers.specs.Text.{Text, text, wrong, Says}
use Rattle.faults.specs.Fault.{fault}
use Rattle.faults.specs.declared.Fault.{Fault}
use Rattle.references.specs.Escape.{escape}
use Rattle.references.specs.Unescape.{before, unescape}
use Rattle.references.specs.Normal.{leads}
use Rattle.references.specs.Entries.{escaping, unescaping}

-- an empty piece does not end in anything
abbrev pub ends_in : ℕ → List ℕ → Bool
ends_in k [] = false
ends_in k (b ∷ []) = eqb b k
ends_in k (b ∷ c ∷ l) = ends_in k (c ∷ l)

-- the first ends in CR and the second begins with LF
abbrev pub split_line : List ℕ → List ℕ → Bool
split_line a b = ends_in 13 a && leads 10 b

-- a fault's place moved on
abbrev pub moved_on : ℕ → Text → Text
moved_on n (text t) = text t
moved_on n (wrong k p) = wrong k (n + p)

-- ---- of the definitions

abbrev pub EscapeJoins : Type 0
EscapeJoins = (a b : List ℕ) → escape (a ++ b) ≡ escape a ++ escape b

-- the first shows s, and no line end is split: s and what the second shows; or the second's refusal, its place moved on
abbrev pub UnescapeJoins : Type 0
UnescapeJoins = (a b s : List ℕ) → unescape a ≡ text s → split_line a b ≡ false → unescape (a ++ b) ≡ before s (moved_on (length a) (unescape b))

-- ---- of what the entries come to, for the room lent

-- with so much room for the first, the second and both
pub record EscapesJoined (a b : List ℕ) (m n room : ℕ) : Type 0 where
  pub first : escaping a m ≡ text (escape a)
  pub second : escaping b n ≡ text (escape b)
  pub both : escaping (a ++ b) room ≡ text (escape a ++ escape b)

-- two UTF-8 pieces, within the limit, and room enough: the joined text's escape is the joined escapes
abbrev pub EscapingJoins : Type 0
EscapingJoins = (a b : List ℕ) (m n room : ℕ) → ill_formed a ≡ length a → ill_formed b ≡ length b → length (a ++ b) ≤ 1048576 → length (escape a) ≤ m → length (escape b) ≤ n → length (escape a ++ escape b) ≤ room → EscapesJoined a b m n room

-- after a first piece that shows s: what a second shows is joined, and its refusal, but for want of room (18), moved on
pub record ValuesJoined (a b s : List ℕ) (n room : ℕ) : Type 0 where
  pub accepted : (t : List ℕ) → unescaping b n ≡ text t → length (s ++ t) ≤ room → unescaping (a ++ b) room ≡ text (s ++ t)
  pub refused : (k p : ℕ) → (k ≡ 18 → ⊥) → unescaping b n ≡ wrong k p → unescaping (a ++ b) room ≡ wrong k (length a + p)

-- the first is accepted, no line end is split, and both are within the limit
abbrev pub UnescapingJoins : Type 0
UnescapingJoins = (a b s : List ℕ) (m n room : ℕ) → unescaping a m ≡ text s → split_line a b ≡ false → length (a ++ b) ≤ 1048576 → ValuesJoined a b s n room

-- ---- of the entries' answers and bytes
-- x, y and z are the three buffers after the calls with the first piece, the second and both; their lengths are the room lent

-- both are done: so many bytes as the two, theirs joined, and zeros after them
pub record Joined (x y z : List ℕ) (m n : ℕ) (r : Result ℕ Fault) : Type 0 where
  pub answer : r ≡ Ok (m + n)
  pub left : z ≡ (take m x ++ take n y) ++ replicate (length z - (m + n)) 0

-- refused, with zeros
pub record RefusedAt (k p : ℕ) (z : List ℕ) (r : Result ℕ Fault) : Type 0 where
  pub answer : r ≡ Err (fault k p)
  pub left : z ≡ replicate (length z) 0

-- `escape` was done with each piece (so they are UTF-8, within the limit, and had room); the joined one is within the limit and has room
abbrev pub EscapeEntriesJoin : Type 0
EscapeEntriesJoin =
    (a b x y z : List ℕ) (p q r : Result ℕ Fault) (m n : ℕ) →
    Says (escaping a (length x)) (length x) x p →
    Says (escaping b (length y)) (length y) y q →
    Says (escaping (a ++ b) (length z)) (length z) z r →
    p ≡ Ok m → q ≡ Ok n →
    length (a ++ b) ≤ 1048576 → m + n ≤ length z →
    Joined x y z m n r

-- what `unescape` answers for both, after it was done with the first piece: by what it answered for the second
pub record UnescapeEntries (a x y z : List ℕ) (m : ℕ) (q r : Result ℕ Fault) : Type 0 where
  pub accepted : (n : ℕ) → q ≡ Ok n → m + n ≤ length z → Joined x y z m n r
  pub refused : (k p : ℕ) → (k ≡ 18 → ⊥) → q ≡ Err (fault k p) → RefusedAt k (length a + p) z r

-- the first piece is accepted, no line end is split, and both together are within the limit
abbrev pub UnescapeEntriesJoin : Type 0
UnescapeEntriesJoin =
    (a b x y z : List ℕ) (p q r : Result ℕ Fault) (m : ℕ) →
    Says (unescaping a (length x)) (length x) x p →
    Says (unescaping b (length y)) (length y) y q →
    Says (unescaping (a ++ b) (length z)) (length z) z r →
    p ≡ Ok m → split_line a b ≡ false → length (a ++ b) ≤ 1048576 →
    UnescapeEntries a x y z m q r
