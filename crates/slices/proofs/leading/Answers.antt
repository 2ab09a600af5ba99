-- `slices::leading` meets its contract: the trailing zeros of the mask, by 8.
use Rattle.slices.proofs.Words.{worded}
use Rattle.slices.proofs.leading.Goals as goal

pub returns : goal.returns
returns c = search worded
