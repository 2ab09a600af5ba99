-- `breaches::least_breach` meets its contract. The least by each rule.
use Rattle.breaches.proofs.Whole.{wholes}
use Rattle.breaches.proofs.least_breach.Goals as goal

pub returns : goal.returns
returns c = search wholes
