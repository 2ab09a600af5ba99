-- `writers::children::has_child` meets its contract.
use Rattle.std.proofs.Common.{rules, refl, true, false}
use Rattle.std.proofs.lemmas.Iterator.{cases_from_any, YieldsList-from_range}
use Rattle.writers.specs.Rows.{Child}
use Rattle.writers.proofs.Scans.{some_child}
use Rattle.writers.proofs.children.has_child.Goals as goal

pub returns : goal.returns
returns c =
    some_child c.args.rows.now c.args.kind c.args.p c.args.from c.args.to c.any.result
    (cases_from_any _ _ c.any.result
    (λ k. Child c.args.rows.now c.args.kind c.args.p k true)
    (λ k. Child c.args.rows.now c.args.kind c.args.p k false)
    c.any.ensures.ran
    (YieldsList-from_range c.args.from c.args.to _ refl refl)
    (λ k q e. search rules)
    (λ k q e. search rules))
