-- `elements::property_row` meets its contract.
use Rattle.std.proofs.lemmas.Result.{err_from_is_err_and}
use Rattle.slices.specs.Bytes.{bytes}
use Rattle.names.specs.Names.{property_name}
use Rattle.names.specs.Signature.{signature}
use Rattle.elements.proofs.Rows.{step_refused, property_start, property_named, property_typed, property_done}
use Rattle.elements.proofs.property_row.Goals as goal

pub returns-in_err-demand_good : goal.returns-in_err-demand_good
returns-in_err-demand_good c =
    let p = err_from_is_err_and c.from_residual.result c.from_residual.ensures.1 in
    rw (p.1, p.2) (step_refused property_start c.requires.ready (rw (c.in_err-demand_good.was {u = tt}) at (c.demand_good.ensures property_name (bytes "name") (λ r i. i.1) (λ t z. z.values.name))))

pub returns-in_err-demand_good-2 : goal.returns-in_err-demand_good-2
returns-in_err-demand_good-2 c =
    let p = err_from_is_err_and c.from_residual-in_err-demand_good-2.result c.from_residual-in_err-demand_good-2.ensures.1 in
    rw (p.1, p.2) (step_refused (property_named (rw (c.in_ok-demand_good.was {u = tt}) at (c.demand_good.ensures property_name (bytes "name") (λ r i. i.1) (λ t z. z.values.name)))) c.requires.ready (rw (c.in_err-demand_good-2.was {u = tt}) at (c.demand_good-2.ensures signature (bytes "type") (λ r i. i.1) (λ t z. z.values.ty))))

pub returns-in_err-access_word : goal.returns-in_err-access_word
returns-in_err-access_word c =
    let p = err_from_is_err_and c.from_residual-in_err-access_word.result c.from_residual-in_err-access_word.ensures.1 in
    rw (p.1, p.2) (step_refused (property_typed (rw (c.in_ok-demand_good.was {u = tt}) at (c.demand_good.ensures property_name (bytes "name") (λ r i. i.1) (λ t z. z.values.name))) (rw (c.in_ok-demand_good-2.was {u = tt}) at (c.demand_good-2.ensures signature (bytes "type") (λ r i. i.1) (λ t z. z.values.ty)))) c.requires.ready (rw (c.in_err-access_word.was {u = tt}) at c.access_word.ensures).is)

pub returns : goal.returns
returns c =
    property_done (rw (c.in_ok-demand_good.was {u = tt}) at (c.demand_good.ensures property_name (bytes "name") (λ r i. i.1) (λ t z. z.values.name))) (rw (c.in_ok-demand_good-2.was {u = tt}) at (c.demand_good-2.ensures signature (bytes "type") (λ r i. i.1) (λ t z. z.values.ty))) c.requires.ready (rw (c.in_ok-access_word.was {u = tt}) at c.access_word.ensures) c.new.ensures c.put_row.ensures
