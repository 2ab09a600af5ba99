-- `slices::past_blocks` meets its contract: a block that passes has no byte that is b.
use Rattle.std.proofs.Common.{rules}
use Rattle.slices.proofs.Skips.{without_blocks}
use Rattle.slices.proofs.past_blocks.Goals as goal

pub returns : goal.returns
returns c = without_blocks c.blocks-2.ensures.passed (λ at h p. search rules)
