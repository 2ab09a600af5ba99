-- `slices::first_equal` meets its contract: the bytes of the exclusive or are 0 where those of the word are b.
use Rattle.slices.proofs.Words.{worded}
use Rattle.slices.proofs.first_equal.Goals as goal

pub returns : goal.returns
returns c = search worded
