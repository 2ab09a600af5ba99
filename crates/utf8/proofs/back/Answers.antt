-- `utf8::back` meets its contract: the last byte before the end that continues no character begins the last one.
use Rattle.std.proofs.Common.{arith, get_or, rules, tests}
use Rattle.utf8.proofs.Cuts.{Lead, Next}
use Rattle.utf8.proofs.Downward.{last_from_rev}
use Rattle.utf8.proofs.Ends.{last_found}
use Rattle.utf8.proofs.back.Goals as goal

pub returns : goal.returns
returns c =
    last_found c.find.result c.requires.boundary c.requires.end_nonzero
    (last_from_rev _ _ _ c.find.result (λ i. Lead (get_or c.args.s.now i 0)) (λ i. Next (get_or c.args.s.now i 0)) c.find.ensures.ran c.rev.ensures.source
    (λ k q e. λ h l. grind (arith, tests))
    (λ k q e. (search rules, (grind (arith, tests), grind (arith, tests)))))
    c.unwrap_or.ensures
