-- `breaches::value_breach` meets its contract. The first fault is the least.
use Rattle.profile.specs.Profile.{raw}
use Rattle.std.proofs.Common.{rules}
use Rattle.breaches.proofs.Faults.{part_places}
use Rattle.breaches.proofs.value_breach.Goals as goal

pub returns : goal.returns
returns c = part_places c.args.doc.now c.args.from c.args.to c.map.ensures.cases (λ p q e. search rules) raw c.value_fault.ensures
