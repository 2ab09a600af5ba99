-- The outcome of a file, of what the reader answers and leaves: word 0 of a row is its kind, word 0 of a warning its reason.
use Rattle.std.specs.Prelude.{ℕ, zero, suc, ◌-◌, List, [], ◌∷◌, drop, Ok, Err}
use Rattle.document.specs.Verdict.{Verdict}
use Rattle.sheets.specs.Sheet.{Outcome, refused, accepted}

-- word 0 of each of n records of w words, as far as the words go
abbrev pub firsts : ℕ → ℕ → List ℕ → List ℕ
firsts w zero xs = []
firsts w (suc n) [] = []
firsts w (suc n) (x ∷ xs) = x ∷ firsts w n (drop (w - 1) xs)

abbrev pub outcome_of : Verdict → List ℕ → List ℕ → Outcome
outcome_of (Err x) rows warnings = refused x.number
outcome_of (Ok n) rows warnings = accepted (firsts 16 n.rows rows) (firsts 4 n.warnings warnings)
