-- What the writers answer and leave (docs/FORMAT.md, Answers), for the room lent.
use Rattle.std.specs.Prelude.{ℕ, List, ◌||◌, ltb, length, Result}
use Rattle.std.proofs.Math.Option.{Option, none, some}
use Rattle.faults.specs.declared.Fault.{Fault}
use Rattle.slices.specs.Bytes.{if}
use Rattle.answers.specs.Text.{Text, text, wrong, roomy, Says}
use Rattle.items.specs.Sound.{Soundness, sound, unsound, soundness}
use Rattle.items.specs.Written.{Item, written}
use Rattle.items.specs.Content.{content_at}

-- 20 at the row asked for; 21 at the bytes needed
abbrev pub item_written : ℕ → ℕ → Option Item → Text
item_written i room none = wrong 20 i
item_written i room (some c) = roomy room (text (written c))

abbrev pub checked : Soundness → Text → Text
checked sound r = r
checked (unsound p) r = wrong 19 p

-- n rows are claimed, and row i is asked for: 2, 19, 20, 21
unfoldable pub writing : List ℕ → List ℕ → List ℕ → ℕ → ℕ → ℕ → Text
writing document x ws n i room =
    let r = checked (soundness document x ws n) (item_written i room (content_at document x ws n i)) in
    if (ltb 1048576 (length document) || ltb 1048576 (length x)) (wrong 2 1048576) r

-- what writing row i answers, and what it leaves in a buffer of that room
pub record Writes (document x ws : List ℕ) (n i room : ℕ) (out : List ℕ) (r : Result ℕ Fault) : Type 0 where
  pub says : Says (writing document x ws n i room) room out r
