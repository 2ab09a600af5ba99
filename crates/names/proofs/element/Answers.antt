-- `names::element` meets its contract: the run of the bytes of an element, where the first is no digit.
use Rattle.std.proofs.Common.{rules}
use Rattle.slices.specs.Run.{Run}
use Rattle.names.specs.Names.{element_byte}
use Rattle.names.proofs.Names.{leads}
use Rattle.names.proofs.element.Goals as goal

pub returns : goal.returns
returns c = let run : Run element_byte c.args.s.now c.args.from c.run_end.result = c.run_end.ensures element_byte (λ b r h e. search rules) in search leads
