-- `utf8::ascii_start` meets its contract: past the blocks the run goes on, and its bytes are UTF-8.
use Rattle.utf8.proofs.Finding.{starts}
use Rattle.utf8.proofs.ascii_start.Goals as goal

pub returns-clause-run : goal.returns-clause-run
returns-clause-run c = search starts

pub returns-clause-start : goal.returns-clause-start
returns-clause-start c = search starts
