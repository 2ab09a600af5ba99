-- `elements::callable_row` meets its contract.
use Rattle.std.proofs.lemmas.Result.{err_from_is_err_and}
use Rattle.slices.specs.Bytes.{bytes}
use Rattle.names.specs.Names.{member_name}
use Rattle.elements.proofs.Rows.{step_refused, named_start, named_done}
use Rattle.elements.proofs.callable_row.Goals as goal

pub returns-in_err-demand_good : goal.returns-in_err-demand_good
returns-in_err-demand_good c =
    let p = err_from_is_err_and c.from_residual.result c.from_residual.ensures.1 in
    rw (p.1, p.2) (step_refused (named_start c.requires.of_kind) c.requires.ready (rw (c.in_err-demand_good.was {u = tt}) at (c.demand_good.ensures member_name (bytes "name") (λ r i. i.1) (λ t z. z.values.name))))

pub returns : goal.returns
returns c = named_done c.requires.ready c.requires.of_kind (rw (c.in_ok-demand_good.was {u = tt}) at (c.demand_good.ensures member_name (bytes "name") (λ r i. i.1) (λ t z. z.values.name))) c.new-head.ensures c.put_row.ensures
