-- `slices::run_end` meets its contract: the first byte that fails the test ends the run.
use Rattle.std.proofs.Common.{◌≡◌, true, false, get_or, rules}
use Rattle.std.proofs.lemmas.Iterator.{first_from_Range}
use Rattle.slices.proofs.Runs.{run_first}
use Rattle.slices.proofs.run_end.Goals as goal

pub returns : goal.returns
returns g c = λ p t.
    run_first c.find.result c.requires.in_bounds
    (first_from_Range _ _ _ c.find.result (λ i. p (get_or c.args.s.now i 0) ≡ false) (λ i. p (get_or c.args.s.now i 0) ≡ true) c.find.ensures.ran
    (λ k q e. search rules)
    (λ k q e. (search rules, search rules)))
    c.unwrap_or.ensures
