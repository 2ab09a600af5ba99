-- `references::digits::of_digits` meets its contract: what is left of the digits from here is what was asked.
use Rattle.std.specs.Prelude.{drop}
use Rattle.references.proofs.Numbers.{Numbering}
use Rattle.references.proofs.digits.of_digits.Given as goal

abbrev pub invariant-loop-b : goal.invariant-loop-b
invariant-loop-b l = Numbering l.base (drop l.from l.s) l.b-items l.b-index l.n
