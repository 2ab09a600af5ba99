-- `order::definitions::first_named` meets its contract.
use Rattle.std.proofs.Common.{rules, true, false}
use Rattle.std.proofs.lemmas.Iterator.{first_from_Range}
use Rattle.order.specs.Table.{of}
use Rattle.order.specs.Steps.{HasName}
use Rattle.order.proofs.Finding.{seek_first}
use Rattle.order.proofs.definitions.first_named.Goals as goal

pub returns : goal.returns
returns c =
    seek_first c.args.table.now.document.now c.args.table.now.text.now c.args.table.now.rows.now c.args.name.now c.args.table.now.n c.find.result
    (first_from_Range _ _ _ c.find.result (λ k. of HasName c.args.table.now k c.args.name.now true) (λ k. of HasName c.args.table.now k c.args.name.now false) c.find.ensures.ran (λ k q e. search rules) (λ k q e. search rules))
