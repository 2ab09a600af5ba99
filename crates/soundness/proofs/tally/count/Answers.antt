-- What `soundness::tally::count` leaves to show.
use Rattle.soundness.proofs.Tallies.{tallying}
use Rattle.soundness.proofs.tally.count.Goals as goal
use Rattle.soundness.proofs.tally.count.Goals.{then-parent-eq0-via-then-parent-eq0, then-parent-eq0-via-else-parent-eq0+then-table-parent}

pub returns-then-word-ne-MEMBER : goal.returns-then-word-ne-MEMBER
returns-then-word-ne-MEMBER c = search tallying

pub returns-then-parent-eq0 : goal.returns-then-parent-eq0
returns-then-parent-eq0 c =
    elim c.then-parent-eq0.branch [
      | then-parent-eq0-via-then-parent-eq0 w ↦ search tallying
      | then-parent-eq0-via-else-parent-eq0+then-table-parent w ↦ search tallying
    ]

pub returns : goal.returns
returns c = search tallying
