-- `utf8::ascii_run` meets its contract: past the blocks the run goes on.
use Rattle.std.proofs.Common.{rules}
use Rattle.utf8.specs.Ascii.{ascii}
use Rattle.utf8.proofs.Ascii.{ascii_run}
use Rattle.utf8.proofs.ascii_run.Goals as goal

pub returns : goal.returns
returns c = ascii_run c.blocks-2.ensures (c.run_end.ensures ascii (λ b r h e. search rules))
