-- `utf8::trim` meets its contract. Each need follows by the laws on both ends.
use Rattle.utf8.proofs.Ends.{boths}
use Rattle.utf8.proofs.trim.Goals as goal

pub returns : goal.returns
returns c = search boths
