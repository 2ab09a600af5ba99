-- What the steps of the strict entry say.
use Rattle.std.specs.Prelude.{ℕ, ◌≡◌, List, Ok, Option, Some, None}
use Rattle.document.specs.Refusals.{bare}
use Rattle.document.specs.Verdict.{Verdict}
use Rattle.document.specs.declared.Counts.{Counts}
use Rattle.reader.specs.Entry.{Refuses}
use Rattle.breaches.specs.Least.{least}
use Rattle.breaches.specs.Breaches.{breaches}

-- by the least breach: the counts, and the buffers as they were; or the refusal, and zeros
abbrev pub IsJudged : Option ℕ → Counts → List ℕ → List ℕ → List ℕ → List ℕ → List ℕ → List ℕ → Verdict → Type 0
IsJudged None k r r' ws ws' ts ts' v = (v ≡ Ok k) × (r' ≡ r) × (ws' ≡ ws) × (ts' ≡ ts)
IsJudged (Some p) k r r' ws ws' ts ts' v = Refuses (bare 29 p) r r' ws ws' ts ts' v

pub record Judges (doc : List ℕ) (k : Counts) (r r' ws ws' ts ts' : List ℕ) (v : Verdict) : Type 0 where
  pub is : IsJudged (least (breaches doc)) k r r' ws ws' ts ts' v
