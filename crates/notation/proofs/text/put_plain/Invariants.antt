-- `notation::text::put_plain` meets its contract: what is left is the measure.
use Rattle.std.proofs.Common.{length}
use Rattle.notation.proofs.text.put_plain.Given as goal

abbrev pub decreases-loop-b : goal.decreases-loop-b
decreases-loop-b l = length l.rest
