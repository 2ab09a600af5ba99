-- What `writers::write_sound` leaves to show.
use Rattle.writers.proofs.Entry.{rows}
use Rattle.writers.proofs.write_sound.Goals as goal

pub returns-then-claimed-row : goal.returns-then-claimed-row
returns-then-claimed-row c = search rows

pub returns-then-is_writable : goal.returns-then-is_writable
returns-then-is_writable c = search rows

pub returns : goal.returns
returns c = search rows

pub word-kind-requires : goal.word-kind-requires
word-kind-requires c = search rows

pub put_item-n-requires-clause-scan : goal.put_item-n-requires-clause-scan
put_item-n-requires-clause-scan c = search rows
