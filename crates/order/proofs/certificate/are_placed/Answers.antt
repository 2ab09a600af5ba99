-- `order::certificate::are_placed` meets its contract.
use Rattle.std.proofs.Common.{rules, refl, arith, true, false}
use Rattle.std.proofs.lemmas.Iterator.{cases_from_all, YieldsList-from_range}
use Rattle.order.specs.Table.{shown_rows}
use Rattle.order.specs.Certificate.{IsPlaced}
use Rattle.order.proofs.Checking.{placed_all}
use Rattle.order.proofs.certificate.are_placed.Goals as goal

pub returns : goal.returns
returns c =
    placed_all c.args.table.now.document.now c.args.table.now.text.now c.args.table.now.rows.now c.args.work.now c.args.out.now c.args.table.now.n c.all.result
    (cases_from_all _ _ c.all.result
    (λ k. IsPlaced (shown_rows c.args.table.now) c.args.table.now.n c.args.work.now c.args.out.now k true)
    (λ k. IsPlaced (shown_rows c.args.table.now) c.args.table.now.n c.args.work.now c.args.out.now k false)
    c.all.ensures.ran
    (YieldsList-from_range 0 c.args.table.now.n c.args.table.now.n refl (omega arith))
    (λ k q e. search rules)
    (λ k q e. search rules))
