-- `writers::children::run_end` meets its contract.
use Rattle.std.proofs.Common.{◌≤◌, ◌<◌, arith, rules, tests}
use Rattle.std.proofs.lemmas.Iterator.{first_from_Range}
use Rattle.items.specs.Words.{word_at}
use Rattle.items.proofs.Words.{word_is}
use Rattle.writers.proofs.Several.{run_end_is}
use Rattle.writers.proofs.children.run_end.Goals as goal

pub returns : goal.returns
returns c =
    run_end_is c.find.result c.requires.within
    (first_from_Range _ _ _ c.find.result (λ k. word_at c.args.rows.now k 1 ≤ c.args.i) (λ k. c.args.i < word_at c.args.rows.now k 1) c.find.ensures.ran
    (λ k q e. grind (arith, tests, word_is))
    (λ k q e. (search rules, grind (arith, tests, word_is))))
    c.unwrap_or.ensures
