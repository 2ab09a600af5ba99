-- `order::counts::count_undefined` meets its contract.
use Rattle.std.proofs.Common.{rules, refl, arith}
use Rattle.std.proofs.lemmas.Iterator.{YieldsList-from_range}
use Rattle.std.proofs.lemmas.Iterator.Consumers.{YieldsList-at, YieldsList-from_filter, count_from_yields_List}
use Rattle.items.specs.Words.{shown_row}
use Rattle.order.specs.Table.{shown_rows}
use Rattle.order.specs.Types.{is_undefined}
use Rattle.order.proofs.Counting.{counted_undefined, undefined_is}
use Rattle.order.proofs.counts.count_undefined.Goals as goal

pub returns : goal.returns
returns c =
    counted_undefined c.args.table.now.document.now c.args.table.now.text.now c.args.table.now.rows.now c.args.table.now.n
    (count_from_yields_List c.filter.result c.count.result c.count.ensures.ran
    (YieldsList-from_filter _ (λ k. is_undefined (shown_rows c.args.table.now) (shown_row c.args.table.now.document.now c.args.table.now.text.now c.args.table.now.rows.now k))
    (YieldsList-at c.filter.ensures.source (YieldsList-from_range 0 c.args.table.now.n c.args.table.now.n refl (omega arith)))
    c.filter.ensures.closure
    (λ k b q e. search (undefined_is, rules))))
