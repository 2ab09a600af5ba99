-- `order::plain::waits` meets its contract.
use Rattle.std.proofs.Common.{rules, refl, arith, true, false}
use Rattle.std.proofs.lemmas.Iterator.{cases_from_any, YieldsList-from_range}
use Rattle.order.specs.Table.{over}
use Rattle.order.specs.Steps.{WaitsIn}
use Rattle.order.proofs.Waiting.{waits_any}
use Rattle.order.proofs.plain.waits.Goals as goal

pub returns : goal.returns
returns c =
    waits_any c.args.table.now.document.now c.args.table.now.text.now c.args.table.now.rows.now c.args.given.now c.args.table.now.n c.args.i c.any.result
    (cases_from_any _ _ c.any.result
    (λ k. over WaitsIn c.args.table.now c.args.given.now c.args.i k true)
    (λ k. over WaitsIn c.args.table.now c.args.given.now c.args.i k false)
    c.any.ensures.ran
    (YieldsList-from_range 0 c.args.table.now.n c.args.table.now.n refl (omega arith))
    (λ k q e. search rules)
    (λ k q e. search rules))
