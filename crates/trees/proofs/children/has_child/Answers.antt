-- `trees::children::has_child` meets its contract.
use Rattle.std.proofs.Common.{◌≡◌, ◌+◌, refl, arith, rules, tests}
use Rattle.std.proofs.lemmas.Iterator.{cases_from_any, YieldsList-from_range}
use Rattle.items.specs.Words.{word_at}
use Rattle.items.proofs.Words.{word_is}
use Rattle.trees.proofs.Standing.{have_any}
use Rattle.trees.proofs.children.has_child.Goals as goal

pub returns : goal.returns
returns c =
    have_any c.any.result
    (cases_from_any _ _ c.any.result
    (λ k. word_at c.args.table.now.rows.now k 1 ≡ c.args.i + 1)
    (λ k. word_at c.args.table.now.rows.now k 1 ≡ c.args.i + 1 → ⊥)
    c.any.ensures.ran
    (YieldsList-from_range (c.args.i + 1) c.args.table.now.n _ refl refl)
    (λ k q e. grind (arith, tests, word_is))
    (λ k q e. (search rules, grind (arith, tests, word_is))))
