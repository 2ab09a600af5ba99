-- `profile::value_fault` meets its contract.
use Rattle.std.proofs.Common.{◌≡◌, true, false, rules}
use Rattle.std.specs.Prelude.{drop}
use Rattle.std.proofs.lemmas.Iterator.{first_from_Range}
use Rattle.profile.specs.Profile.{raw}
use Rattle.profile.proofs.Going.{first_is}
use Rattle.profile.proofs.value_fault.Goals as goal

pub returns : goal.returns
returns c =
    first_is raw c.args.s.now c.find.result
    (first_from_Range _ _ _ c.find.result (λ i. raw (drop i c.args.s.now) ≡ true) (λ i. raw (drop i c.args.s.now) ≡ false) c.find.ensures.ran
    (λ k q e. search rules)
    (λ k q e. search rules))
