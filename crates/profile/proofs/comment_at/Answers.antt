-- What `profile::comment_at` leaves to show.
use Rattle.profile.proofs.Afters.{comment_breach}
use Rattle.profile.proofs.comment_at.Goals as goal

pub returns-in-Some : goal.returns-in-Some
returns-in-Some c = comment_breach c.args.s.now c.args.at c.end_of.ensures (c.in_ok-end.was {u = tt}) c.comment_fault.ensures c.in-Some.is c.new.ensures
