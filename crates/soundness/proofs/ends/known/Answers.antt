-- What `soundness::ends::known` leaves to show.
use Rattle.soundness.proofs.Known.{looked_whole, looked_nothing}
use Rattle.soundness.proofs.ends.known.Goals as goal

pub returns-in-Whole : goal.returns-in-Whole
returns-in-Whole c = looked_whole c.in-Whole.is c.ill_formed.ensures

pub returns-in-Nothing : goal.returns-in-Nothing
returns-in-Nothing c = looked_nothing c.args.s.now c.in-Nothing.is
