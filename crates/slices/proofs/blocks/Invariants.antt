-- `slices::blocks` meets its contract: each place up to here lies in a block that passes.
use Rattle.std.proofs.Common.{◌-◌, length}
use Rattle.slices.specs.Run.{Blocks}
use Rattle.slices.proofs.blocks.Given as goal

abbrev pub invariant-loop-at : goal.invariant-loop-at
invariant-loop-at g l = Blocks (goal.F-post g l.test) l.s l.from l.n l.at

abbrev pub decreases-loop-at : goal.decreases-loop-at
decreases-loop-at g l = length l.s - l.at
