-- `writers::write` meets its contract.
use Rattle.writers.proofs.Entry.{admits, entry}
use Rattle.writers.proofs.write.Goals as goal

pub returns-in-Err : goal.returns-in-Err
returns-in-Err c = search entry

pub write_sound-requires : goal.write_sound-requires
write_sound-requires c = admits c.admit.ensures c.in-Ok.is

pub returns-in-Ok : goal.returns-in-Ok
returns-in-Ok c = search entry
