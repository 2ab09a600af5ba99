-- What the steps of the entry `write` say.
use Rattle.std.specs.Prelude.{ℕ, ◌≤◌, ◌≡◌, List, length, Result}
use Rattle.faults.specs.declared.Fault.{Fault}
use Rattle.answers.specs.Text.{Says}
use Rattle.items.specs.Sound.{sound, soundness}
use Rattle.items.specs.Content.{content_at}
use Rattle.items.specs.Writing.{item_written}

-- the document and the text are within the limit, and the rows are sound
pub record Admitted (d x ws : List ℕ) (n : ℕ) : Type 0 where
  pub document : length d ≤ 1048576
  pub text : length x ≤ 1048576
  pub rows : soundness d x ws n ≡ sound

-- what is answered and left for row i of sound rows
pub record WritesSound (d x ws : List ℕ) (n i : ℕ) (t t' : List ℕ) (r : Result ℕ Fault) : Type 0 where
  pub says : Says (item_written i (length t) (content_at d x ws n i)) (length t) t' r
