-- What `soundness::good_texts` leaves to show.
use borrow.Author.Rules.{rules}
use Rattle.soundness.proofs.Rows.{last_text}
use Rattle.soundness.proofs.good_texts.Goals as goal
use Rattle.soundness.proofs.good_texts.Goals.{then-good_name, else-good_name, then-good_value, else-good_value}

pub returns-then-good_tp : goal.returns-then-good_tp
returns-then-good_tp c =
    elim c.if-good_name.branch [
      | then-good_name w ↦ elim c.if-good_value.branch [
        | then-good_value v ↦ last_text _ _ c.word-kind.ensures c.triple.ensures c.good_name.ensures (search rules) w.triple-then-good_name.ensures w.good_value.ensures (search rules) v.triple-then-good_value.ensures v.good_tp.ensures (search rules) c.triple-then-good_tp.ensures c.good_doc.ensures
        | else-good_value v ↦ search rules
      ]
      | else-good_name w ↦ elim c.if-good_value.branch [
        | then-good_value v ↦ search rules
        | else-good_value v ↦ search rules
      ]
    ]
