-- What `columns::refuse` leaves to show.
use Rattle.columns.proofs.Answers.{refuses}
use Rattle.columns.proofs.refuse.Goals as goal

pub returns : goal.returns
returns c = refuses c.clear_words.ensures
