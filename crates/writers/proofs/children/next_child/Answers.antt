-- `writers::children::next_child` meets its contract.
use Rattle.std.proofs.Common.{◌≡◌, arith, rules, tests}
use Rattle.std.proofs.lemmas.Iterator.{first_from_Range}
use Rattle.items.specs.Words.{word_at}
use Rattle.items.proofs.Words.{word_is}
use Rattle.writers.proofs.Scans.{next_child_is}
use Rattle.writers.proofs.children.next_child.Goals as goal

pub returns : goal.returns
returns c =
    next_child_is c.find.result c.requires.onward
    (first_from_Range _ _ _ c.find.result (λ k. word_at c.args.rows.now k 1 ≡ c.args.p) (λ k. word_at c.args.rows.now k 1 ≡ c.args.p → ⊥) c.find.ensures.ran
    (λ k q e. grind (arith, tests, word_is))
    (λ k q e. (search rules, grind (arith, tests, word_is))))
    c.unwrap_or.ensures
