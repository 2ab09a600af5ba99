-- What `reader::parse_with_warnings` leaves to show.
use Rattle.reader.proofs.Entries.{entry}
use Rattle.reader.proofs.parse_with_warnings.Goals as goal

pub returns-then-document-gt1048576 : goal.returns-then-document-gt1048576
returns-then-document-gt1048576 c = search entry

pub returns-then-bad-document : goal.returns-then-bad-document
returns-then-bad-document c = search entry
