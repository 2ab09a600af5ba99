-- `breaches::comment_breach` meets its contract. The first fault is the least.
use Rattle.profile.specs.Profile.{hyphens}
use Rattle.std.proofs.Common.{rules, ◌+◌, ◌-◌}
use Rattle.breaches.proofs.Faults.{part_places}
use Rattle.breaches.proofs.comment_breach.Goals as goal

pub returns : goal.returns
returns c = part_places c.args.doc.now (c.args.at + 4) (c.args.end - 3) c.map.ensures.cases (λ p q e. search rules) hyphens c.comment_fault.ensures
