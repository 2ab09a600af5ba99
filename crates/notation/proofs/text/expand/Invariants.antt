-- `notation::text::expand` meets its contract: what is left is the measure.
use Rattle.std.proofs.Common.{length}
use Rattle.notation.proofs.text.expand.Given as goal

abbrev pub decreases-loop-after : goal.decreases-loop-after
decreases-loop-after l = length l.rest
