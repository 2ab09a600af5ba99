-- `order::plain::next_ready` meets its contract.
use Rattle.std.proofs.Common.{rules, true, false}
use Rattle.std.proofs.lemmas.Iterator.{first_from_Range}
use Rattle.order.specs.Table.{over}
use Rattle.order.specs.Steps.{IsReady}
use Rattle.order.proofs.Waiting.{ready_first}
use Rattle.order.proofs.plain.next_ready.Goals as goal

pub returns : goal.returns
returns c =
    ready_first c.args.table.now.document.now c.args.table.now.text.now c.args.table.now.rows.now c.args.given.now c.args.table.now.n c.find.result
    (first_from_Range _ _ _ c.find.result (λ k. over IsReady c.args.table.now c.args.given.now k true) (λ k. over IsReady c.args.table.now c.args.given.now k false) c.find.ensures.ran (λ k q e. search rules) (λ k q e. search rules))
