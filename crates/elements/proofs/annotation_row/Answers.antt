-- `elements::annotation_row` meets its contract.
use Rattle.std.proofs.lemmas.Result.{err_from_is_err_and}
use Rattle.slices.specs.Bytes.{bytes}
use Rattle.elements.proofs.Rows.{step_refused, annotation_start, annotation_named, annotation_done}
use Rattle.elements.proofs.annotation_row.Goals as goal

pub returns-in_err-demand : goal.returns-in_err-demand
returns-in_err-demand c =
    let p = err_from_is_err_and c.from_residual.result c.from_residual.ensures.1 in
    rw (p.1, p.2) (step_refused annotation_start c.requires.ready (rw (c.in_err-demand.was {u = tt}) at (c.demand.ensures c.args.doc.now (bytes "name") (λ t z. z.values.name))))

pub returns-in_err-demand-2 : goal.returns-in_err-demand-2
returns-in_err-demand-2 c =
    let p = err_from_is_err_and c.from_residual-in_err-demand-2.result c.from_residual-in_err-demand-2.ensures.1 in
    rw (p.1, p.2) (step_refused (annotation_named (rw (c.in_ok-demand.was {u = tt}) at (c.demand.ensures c.args.doc.now (bytes "name") (λ t z. z.values.name)))) c.requires.ready (rw (c.in_err-demand-2.was {u = tt}) at (c.demand-2.ensures c.args.doc.now (bytes "value") (λ t z. z.values.value))))

pub returns : goal.returns
returns c =
    annotation_done (rw (c.in_ok-demand.was {u = tt}) at (c.demand.ensures c.args.doc.now (bytes "name") (λ t z. z.values.name))) c.requires.ready (rw (c.in_ok-demand-2.was {u = tt}) at (c.demand-2.ensures c.args.doc.now (bytes "value") (λ t z. z.values.value))) c.new-head.ensures c.put_row.ensures
