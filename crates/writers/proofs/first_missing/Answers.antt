-- `writers::first_missing` meets its contract.
use Rattle.std.proofs.Common.{◌≡◌, true, false, rules, tests}
use Rattle.std.proofs.lemmas.List.{map-id}
use Rattle.std.proofs.lemmas.Iterator.{first_from_find, YieldsList-from_slice, YieldsList-from_map}
use Rattle.std.proofs.lemmas.Iterator.Consumers.{YieldsList-at}
use Rattle.writers.specs.Several.{is_item}
use Rattle.writers.proofs.Several.{an_item, no_item, first_is}
use Rattle.writers.proofs.first_missing.Goals as goal

pub returns : goal.returns
returns c =
    first_is c.find.result
    (rw (map-id c.args.asked.now) at
    (first_from_find _ _ c.find.result (λ i. is_item c.args.rows.now c.args.n i ≡ false) (λ i. is_item c.args.rows.now c.args.n i ≡ true) c.find.ensures.ran
    (YieldsList-from_map _ (λ x. x) (YieldsList-at c.map.ensures.source (YieldsList-from_slice c.args.asked.now cc)) c.map.ensures.closure (λ x r q k. search (rules, tests)))
    (λ i q e. search (no_item, rules))
    (λ i q e. search (an_item, rules))))
