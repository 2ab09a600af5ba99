-- What `soundness::sound_row` leaves to show.
use Rattle.soundness.proofs.Rows.{sound_rows}
use Rattle.soundness.proofs.sound_row.Goals as goal

pub returns-in-None : goal.returns-in-None
returns-in-None c = search sound_rows

pub returns-in-Some : goal.returns-in-Some
returns-in-Some c = search sound_rows
