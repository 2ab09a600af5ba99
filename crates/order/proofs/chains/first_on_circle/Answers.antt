-- `order::chains::first_on_circle` meets its contract.
use Rattle.std.proofs.Common.{rules, true, false}
use Rattle.std.proofs.lemmas.Iterator.{first_from_Range}
use Rattle.order.specs.Table.{shown_rows}
use Rattle.order.specs.Steps.{OnCircle}
use Rattle.order.proofs.Reaching.{circle_first}
use Rattle.order.proofs.chains.first_on_circle.Goals as goal

pub returns : goal.returns
returns c =
    circle_first c.args.table.now.document.now c.args.table.now.text.now c.args.table.now.rows.now c.args.table.now.n c.find.result
    (first_from_Range _ _ _ c.find.result (λ k. OnCircle (shown_rows c.args.table.now) k true) (λ k. OnCircle (shown_rows c.args.table.now) k false) c.find.ensures.ran (λ k q e. search rules) (λ k q e. search rules))
