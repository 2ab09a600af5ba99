-- `order::chains::next_reached` meets its contract.
use Rattle.std.proofs.Common.{rules, true, false}
use Rattle.std.proofs.lemmas.Iterator.{first_from_Range}
use Rattle.order.specs.Steps.{IsReached}
use Rattle.order.proofs.Reaching.{reached_first}
use Rattle.order.proofs.chains.next_reached.Goals as goal

pub returns : goal.returns
returns c =
    reached_first c.args.marks.now c.args.n c.find.result
    (first_from_Range _ _ _ c.find.result (λ k. IsReached c.args.marks.now k true) (λ k. IsReached c.args.marks.now k false) c.find.ensures.ran (λ k q e. search rules) (λ k q e. search rules))
