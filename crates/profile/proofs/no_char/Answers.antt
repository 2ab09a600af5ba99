-- `profile::no_char` meets its contract.
use Rattle.profile.proofs.NoChars.{places}
use Rattle.profile.proofs.no_char.Goals.{in_default, in_default-2, in-9, in-9-2}
use Rattle.profile.proofs.no_char.Goals as goal

pub returns-then-b-lt32 : goal.returns-then-b-lt32
returns-then-b-lt32 c = elim c.match-matches.branch [
  | in_default w ↦ rw w.matches-is (search places)
  | in_default-2 w ↦ rw w.matches-is (search places)
  | in-9 w ↦ rw w.matches-is (search places)
  | in-9-2 w ↦ rw w.matches-is (search places)
]
