-- `slices::mix` meets its contract.
use Rattle.std.proofs.Common.{rules}
use Rattle.slices.specs.Hash.{mixed}
use Rattle.slices.proofs.mix.Goals as goal

pub returns : goal.returns
unfolding mixed
returns c = search rules
