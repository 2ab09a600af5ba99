-- What `reader::turn_at` leaves to show.
use mathlib.Core.Path.{refl}
use Rattle.std.proofs.lemmas.Result.{err_from_is_err_and}
use Rattle.reader.proofs.Turning.{turn_fault, turn_close, turn_started, turn_begun}
use Rattle.reader.proofs.turn_at.Goals as goal

pub returns-in_err-closing-clause-is : goal.returns-in_err-closing-clause-is
returns-in_err-closing-clause-is c =
    let p = err_from_is_err_and c.from_residual.result c.from_residual.ensures.1 in
    rw (p.1, p.2) (turn_fault c.requires.walking c.next_in.ensures refl (c.in_err-closing.was {u = tt}))

pub start_in-requires : goal.start_in-requires
start_in-requires c = record { started = turn_started c.requires.walking c.next_in.ensures refl (rw c.in-Start.is at (c.in_ok-closing.was {u = tt})) }

pub returns-in-Close-clause-is : goal.returns-in-Close-clause-is
returns-in-Close-clause-is c = turn_close c.requires.walking c.next_in.ensures refl (rw c.in-Close.is at (c.in_ok-closing.was {u = tt})) c.close_node.ensures

pub returns-in-Start-clause-is : goal.returns-in-Start-clause-is
returns-in-Start-clause-is c = turn_begun c.requires.walking c.next_in.ensures refl (rw c.in-Start.is at (c.in_ok-closing.was {u = tt})) c.start_in.ensures.is
