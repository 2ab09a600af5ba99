-- What `trees::write_sound` leaves to show.
use Rattle.answers.proofs.Answers.{told}
use Rattle.trees.proofs.Entry.{no_row, no_kind, rows}
use Rattle.trees.proofs.write_sound.Goals as goal
use Rattle.trees.proofs.write_sound.Goals.{then-claimed-row-via-then-claimed-row, then-claimed-row-via-else-claimed-row+then-not-is_writable}

pub returns-then-claimed-row : goal.returns-then-claimed-row
returns-then-claimed-row c =
    elim c.then-claimed-row.branch [
      | then-claimed-row-via-then-claimed-row w ↦ no_row w.if-claimed-row.true (told c.new.ensures c.refuse.ensures)
      | then-claimed-row-via-else-claimed-row+then-not-is_writable w ↦ no_kind w.if-claimed-row.false w.word.ensures w.is_writable.ensures w.if-not-is_writable.true (told c.new.ensures c.refuse.ensures)
    ]

pub returns-in-Err : goal.returns-in-Err
returns-in-Err c = search rows

pub returns-in-Ok : goal.returns-in-Ok
returns-in-Ok c = search rows
