-- What `soundness::good_row` leaves to show.
use Rattle.soundness.proofs.Rows.{whole}
use Rattle.soundness.proofs.good_row.Goals as goal
use Rattle.soundness.proofs.good_row.Goals.{then-is_placed, else-is_placed, then-good_texts, else-good_texts}

pub returns-else-valid_word : goal.returns-else-valid_word
returns-else-valid_word c =
    elim c.if-good_texts.branch [
      | then-good_texts v ↦ search whole
      | else-good_texts v ↦ elim c.if-is_placed.branch [
        | then-is_placed w ↦ search whole
        | else-is_placed w ↦ search whole
      ]
    ]
