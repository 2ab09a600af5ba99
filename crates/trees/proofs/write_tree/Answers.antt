-- What `trees::write_tree` leaves to show.
use Rattle.trees.proofs.Entry.{admits, entry}
use Rattle.trees.proofs.write_tree.Goals as goal

pub write_sound-requires : goal.write_sound-requires
write_sound-requires c = admits c.admit.ensures c.in-Ok.is

pub returns-in-Err : goal.returns-in-Err
returns-in-Err c = search entry

pub returns-in-Ok : goal.returns-in-Ok
returns-in-Ok c = search entry
