-- `soundness::bytes_told` meets its contract: the sum stays small enough.
use Rattle.std.proofs.Common.{◌^◌, refl, rules, arith}
use Rattle.std.proofs.lemmas.Iterator.{YieldsList-from_range}
use Rattle.std.proofs.lemmas.Iterator.Consumers.{YieldsList-at}
use Rattle.std.proofs.lemmas.Iterator.Adapters.{fits_from_length, at_most_from_yields_List}
use Rattle.std.proofs.lemmas.List.FromFn.{length-range_with_len}
use Rattle.soundness.proofs.bytes_told.Goals as goal

pub sum-requires-clause-fits : goal.sum-requires-clause-fits
sum-requires-clause-fits c =
    fits_from_length _ _ 262144 (2 ^ 64)
    (at_most_from_yields_List (YieldsList-at c.map.ensures.source (YieldsList-from_range 0 c.args.table.now.n c.args.table.now.n refl (omega arith))) (omega (arith, length-range_with_len 0 c.args.table.now.n, c.args.table.now.few)))
    c.map.ensures.closure
    (omega arith)
    (λ x r q k. search rules)
