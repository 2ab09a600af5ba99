-- `scan::space_end` meets its contract: the run of the bytes of the class.
use Rattle.std.proofs.Common.{rules}
use Rattle.scan.specs.Classes.{white}
use Rattle.scan.proofs.space_end.Goals as goal

pub returns : goal.returns
returns c = c.run_end.ensures white (λ b r h e. search rules)
