-- What the steps of the entries say: whether a value is admitted.
use Rattle.std.specs.Prelude.{ℕ, ◌≤◌, ◌≡◌, List, length, Result, Ok, Err}
use Rattle.answers.specs.Text.{Text, text, wrong}
use Rattle.references.specs.Unescape.{unescape}
use Rattle.references.specs.Entries.{checked, unescaping}
use Rattle.references.specs.declared.ValueFault.{ValueFault}

-- 2, then 1: a value that is short enough and well-formed, or the fault, whatever is asked
abbrev pub IsAdmitted : List ℕ → Result (Unit {0}) ValueFault → Type 0
IsAdmitted v (Ok u) = (length v ≤ 1048576) × ((o : Text) → checked v o ≡ o)
IsAdmitted v (Err f) = (o : Text) → checked v o ≡ wrong f.number f.place.0

pub record Admits (v : List ℕ) (r : Result (Unit {0}) ValueFault) : Type 0 where
  pub is : IsAdmitted v r

-- the same, then 9 to 11
abbrev pub IsRead : List ℕ → Result (Unit {0}) ValueFault → Type 0
IsRead v (Ok u) = (length v ≤ 1048576) × ((o : Text) → checked v o ≡ o) × ((t : List ℕ) × (unescape v ≡ text t))
IsRead v (Err f) = (room : ℕ) → unescaping v room ≡ wrong f.number f.place.0

pub record Reads (v : List ℕ) (r : Result (Unit {0}) ValueFault) : Type 0 where
  pub is : IsRead v r
