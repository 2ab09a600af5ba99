-- `shown::changed` meets its contract.
use Rattle.std.proofs.Common.{rules}
use Rattle.shown.proofs.Tests.{changed_is}
use Rattle.shown.proofs.changed.Goals as goal

pub returns : goal.returns
returns c = changed_is c.raw.ensures c.put_shown.ensures (search rules) (search rules) c.min.ensures
