-- `utf16::within` meets its contract.
use Rattle.utf16.proofs.Limits.{Limiting}
use Rattle.utf16.proofs.within.Given as goal

abbrev pub invariant-loop-i : goal.invariant-loop-i
invariant-loop-i l = Limiting l.raw l.from l.first l.second l.over l.i
