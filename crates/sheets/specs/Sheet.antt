-- What comes of files, and their sheet (docs/FORMAT.md, Sheets): a fold of one file's outcome after the other.
use Rattle.std.specs.Prelude.{ℕ, suc, ◌+◌, List, [], ◌∷◌, ◌==◌}
use Rattle.slices.specs.Bytes.{if}

-- nothing was read; refused with a number; accepted, with the kinds of its rows and the reasons of its warnings
pub data Outcome : Type 0 where
  unreadable : Outcome
  refused : ℕ → Outcome
  accepted : List ℕ → List ℕ → Outcome

-- how often a number stands in a list
abbrev pub occurs : ℕ → List ℕ → ℕ
occurs k [] = 0
occurs k (x ∷ xs) = let n = occurs k xs in if (x == k) (suc n) n

-- how many files are accepted, refused, unreadable; how many are refused with a number, how many rows are of a kind, how many
-- warnings are for a reason
pub record Sheet : Type 0 where
  pub accepted : ℕ
  pub refused : ℕ
  pub unreadable : ℕ
  pub numbers : ℕ → ℕ
  pub kinds : ℕ → ℕ
  pub reasons : ℕ → ℕ

abbrev pub blank : Sheet
blank = record { accepted = 0; refused = 0; unreadable = 0; numbers = λ k. 0; kinds = λ k. 0; reasons = λ k. 0 }

-- one file more; only one that is accepted has rows and warnings
abbrev pub added : Outcome → Sheet → Sheet
added unreadable s = record {
  accepted = s.accepted;
  refused = s.refused;
  unreadable = s.unreadable + 1;
  numbers = s.numbers;
  kinds = s.kinds;
  reasons = s.reasons;
}
added (refused n) s = record {
  accepted = s.accepted;
  refused = s.refused + 1;
  unreadable = s.unreadable;
  numbers = λ k. s.numbers k + occurs k (n ∷ []);
  kinds = s.kinds;
  reasons = s.reasons;
}
added (accepted ks ws) s = record {
  accepted = s.accepted + 1;
  refused = s.refused;
  unreadable = s.unreadable;
  numbers = s.numbers;
  kinds = λ k. s.kinds k + occurs k ks;
  reasons = λ k. s.reasons k + occurs k ws;
}

abbrev pub summed : Sheet → List Outcome → Sheet
summed s [] = s
summed s (o ∷ os) = summed (added o s) os

-- the sheet of files, one after the other
abbrev pub sheet_of : List Outcome → Sheet
sheet_of os = summed blank os
