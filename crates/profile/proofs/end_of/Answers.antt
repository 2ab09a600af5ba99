-- `profile::end_of` meets its contract.
use Rattle.std.proofs.Common.{rules}
use Rattle.profile.proofs.Afters.{closed_told}
use Rattle.profile.proofs.end_of.Goals as goal

pub returns : goal.returns
returns c = closed_told c.requires.ordered c.requires.in_bounds c.until.ensures c.map_err.ensures.cases (λ f g q. search rules)
