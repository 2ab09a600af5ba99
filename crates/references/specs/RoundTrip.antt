-- Theorems on escaping: unescaping gives the text back, of the definitions and at the entries.
use Rattle.std.specs.Prelude.{ℕ, ◌-◌, ◌≤◌, ◌≡◌, List, ◌++◌, true, length, take, replicate, Result, Ok}
use Rattle.slices.specs.Bytes.{other, all}
use Rattle.utf8.specs.WellFormed.{ill_formed}
use Rattle.answers.specs.Text.{text, Says}
use Rattle.faults.specs.declared.Fault.{Fault}
use Rattle.references.specs.Escape.{escape}
use Rattle.references.specs.Unescape.{unescape}
use Rattle.references.specs.Entries.{escaping, unescaping}

-- every text comes back
abbrev pub UnescapeEscape : Type 0
UnescapeEscape = (s : List ℕ) → unescape (escape s) ≡ text s

-- what escaping writes can stand in an attribute value: it has no `"` and no `<`
abbrev pub EscapeQuotable : Type 0
EscapeQuotable = (s : List ℕ) → (all (other 34) (escape s) ≡ true) × (all (other 60) (escape s) ≡ true)

-- both leave UTF-8 well-formed
abbrev pub EscapeFormed : Type 0
EscapeFormed = (s : List ℕ) → ill_formed s ≡ length s → ill_formed (escape s) ≡ length (escape s)

abbrev pub UnescapeFormed : Type 0
UnescapeFormed = (v t : List ℕ) → ill_formed v ≡ length v → unescape v ≡ text t → ill_formed t ≡ length t

-- ---- at the entries, with room

-- a UTF-8 value within the limit is escaped
abbrev pub EscapingDone : Type 0
EscapingDone = (v : List ℕ) → ill_formed v ≡ length v → (room : ℕ) → length v ≤ 1048576 → length (escape v) ≤ room → escaping v room ≡ text (escape v)

-- what was escaped is unescaped, if it is within the limit
abbrev pub UnescapingDone : Type 0
UnescapingDone = (v : List ℕ) → ill_formed v ≡ length v → (room : ℕ) → length (escape v) ≤ 1048576 → length v ≤ room → unescaping (escape v) room ≡ text v

-- answers and bytes: v was escaped to m bytes of the buffer x, and these are unescaped into the buffer y
pub record Restores (v y : List ℕ) (r : Result ℕ Fault) : Type 0 where
  pub answer : r ≡ Ok (length v)
  pub left : y ≡ v ++ replicate (length y - length v) 0

abbrev pub EntriesRestore : Type 0
EntriesRestore =
    (v x y : List ℕ) (p r : Result ℕ Fault) (m : ℕ) →
    Says (escaping v (length x)) (length x) x p →
    Says (unescaping (take m x) (length y)) (length y) y r →
    p ≡ Ok m → m ≤ 1048576 → length v ≤ length y →
    Restores v y r
