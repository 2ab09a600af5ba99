-- `slices::blocks` meets its contract: one more block passes.
use Rattle.std.proofs.Common.{rules, arith}
use Rattle.slices.proofs.Skips.{blocks_more}
use Rattle.slices.proofs.blocks.Goals as goal

pub loop-at-preserved : goal.loop-at-preserved
loop-at-preserved g c = blocks_more c.loop-at.invariant (omega arith) c.test.ensures (search rules)
