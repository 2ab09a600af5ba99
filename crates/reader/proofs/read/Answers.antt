-- What `reader::read` leaves to show.
use Rattle.reader.proofs.Files.{files, reads_unmarked, reads_decoded}
use Rattle.reader.proofs.read.Goals as goal

pub returns-in-Ok-None : goal.returns-in-Ok-None
returns-in-Ok-None c = reads_unmarked c.decode.ensures c.parse_with_warnings-verdict.ensures (rw c.in-Ok-None.field-0-is at c.in-Ok-None.is)

pub returns-in-Ok-Some : goal.returns-in-Ok-Some
returns-in-Ok-Some c = reads_decoded c.decode.ensures c.parse_with_warnings-verdict-in-Ok-Some.ensures (rw c.in-Ok-Some.field-0-is at c.in-Ok-Some.is)

pub returns-in-Err : goal.returns-in-Err
returns-in-Err c = search files
