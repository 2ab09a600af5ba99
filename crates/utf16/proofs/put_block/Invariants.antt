-- `utf16::put_block` meets its contract.
use Rattle.utf16.proofs.Decoding.{Blocks}
use Rattle.utf16.proofs.put_block.Given as goal

abbrev pub invariant-loop-i : goal.invariant-loop-i
invariant-loop-i l = Blocks l.big l.raw l.at l.n l.initial.out l.out l.i l.m
