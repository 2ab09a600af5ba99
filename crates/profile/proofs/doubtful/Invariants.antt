-- `profile::doubtful` meets its contract. The invariant: no such byte was passed, or it was told.
use Rattle.profile.specs.Steps.{Clear}
use Rattle.profile.proofs.doubtful.Given as goal

abbrev pub invariant-loop-i : goal.invariant-loop-i
invariant-loop-i l = Clear l.s l.from l.i l.hit
