-- What `writers::put_args` leaves to show. Its loop is in Invariants.antt.
use Rattle.writers.proofs.Members.{argues}
use Rattle.writers.proofs.put_args.Goals as goal

pub returns : goal.returns
returns c = search argues
