-- `breaches::name_breach` meets its contract. The first fault is the least.
use Rattle.std.proofs.Common.{rules}
use Rattle.breaches.proofs.Faults.{part_name}
use Rattle.breaches.proofs.name_breach.Goals as goal

pub returns : goal.returns
returns c = part_name c.args.doc.now c.args.from c.args.to c.map.ensures.cases (λ p q e. search rules) c.name_fault.ensures
