-- `elements::demand_good` meets its contract.
use Rattle.elements.proofs.Rows.{good_there, good_bad}
use Rattle.elements.proofs.demand_good.Goals as goal

pub returns-then-good : goal.returns-then-good
returns-then-good g c = λ p k says is. good_there c.args.number p (rw (c.in_ok-demand.was {u = tt}) at (c.demand.ensures _ k is)) (says _ c.good.ensures) c.if-good.true

pub returns : goal.returns
returns g c = λ p k says is. good_bad c.args.number p (rw (c.in_ok-demand.was {u = tt}) at (c.demand.ensures _ k is)) (says _ c.good.ensures) c.if-good.false c.bare.ensures
