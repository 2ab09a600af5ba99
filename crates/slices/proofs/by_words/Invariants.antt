-- `slices::by_words` meets its contract: no byte up to the next word is b.
use Rattle.std.proofs.Common.{◌+◌, ◌*◌}
use Rattle.slices.specs.Run.{Without}
use Rattle.slices.proofs.by_words.Given as goal

abbrev pub invariant-loop-i : goal.invariant-loop-i
invariant-loop-i l = Without l.s l.b l.from (l.from + 8 * l.i)
