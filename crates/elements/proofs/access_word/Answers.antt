-- `elements::access_word` meets its contract.
use Rattle.std.proofs.Common.{rules}
use Rattle.slices.specs.Bytes.{bytes}
use Rattle.elements.proofs.Rows.{access_bad, access_good}
use Rattle.elements.proofs.access_word.Goals as goal

pub returns-in-0 : goal.returns-in-0
returns-in-0 c = access_bad (rw (c.in_ok-demand.was {u = tt}) at (c.demand.ensures c.args.doc.now (bytes "access") (λ t z. z.values.access))) c.access.ensures c.in-0.is c.excerpt.ensures c.showing.ensures

pub returns-in_default : goal.returns-in_default
returns-in_default c = access_good (rw (c.in_ok-demand.was {u = tt}) at (c.demand.ensures c.args.doc.now (bytes "access") (λ t z. z.values.access))) c.access.ensures (search rules)
