-- The verdict on a document: how much was read, or why it is refused.
use Rattle.std.specs.Prelude.{ℕ, Result}
use Rattle.document.specs.declared.Counts.{Counts}
use Rattle.document.specs.declared.Refusal.{Refusal}

abbrev pub Verdict : Type 0
Verdict = Result Counts Refusal

-- so many rows, bytes of text and warnings
abbrev pub counts : ℕ → ℕ → ℕ → Counts
counts rows text warnings = record { rows = rows; text = text; warnings = warnings }
