-- `elements::arg_row` meets its contract.
use Rattle.std.proofs.lemmas.Result.{err_from_is_err_and}
use Rattle.slices.specs.Bytes.{bytes}
use Rattle.names.specs.Signature.{signature}
use Rattle.elements.proofs.Rows.{step_refused, arg_start, arg_typed, arg_done}
use Rattle.elements.proofs.arg_row.Goals as goal

pub returns-in_err-demand_good : goal.returns-in_err-demand_good
returns-in_err-demand_good c =
    let p = err_from_is_err_and c.from_residual.result c.from_residual.ensures.1 in
    rw (p.1, p.2) (step_refused arg_start c.requires.ready (rw (c.in_err-demand_good.was {u = tt}) at (c.demand_good.ensures signature (bytes "type") (λ r i. i.1) (λ t z. z.values.ty))))

pub returns-in_err-direction_word : goal.returns-in_err-direction_word
returns-in_err-direction_word c =
    let p = err_from_is_err_and c.from_residual-in_err-direction_word.result c.from_residual-in_err-direction_word.ensures.1 in
    rw (p.1, p.2) (step_refused (arg_typed (rw (c.in_ok-demand_good.was {u = tt}) at (c.demand_good.ensures signature (bytes "type") (λ r i. i.1) (λ t z. z.values.ty)))) c.requires.ready (rw (c.in_err-direction_word.was {u = tt}) at c.direction_word.ensures).is)

pub returns : goal.returns
returns c =
    arg_done (rw (c.in_ok-demand_good.was {u = tt}) at (c.demand_good.ensures signature (bytes "type") (λ r i. i.1) (λ t z. z.values.ty))) c.requires.ready (rw (c.in_ok-direction_word.was {u = tt}) at c.direction_word.ensures) c.new.ensures c.put_row.ensures
