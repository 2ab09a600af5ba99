-- `profile::next_doubt` meets its contract: no byte before the one that is found is doubtful.
use Rattle.std.proofs.Common.{false, get_or, rules}
use Rattle.std.specs.Bool.{⊤}
use Rattle.std.proofs.lemmas.Iterator.{first_from_Range}
use Rattle.profile.specs.Steps.{Doubts}
use Rattle.profile.proofs.NoChars.{free_on}
use Rattle.profile.proofs.next_doubt.Goals as goal

pub returns : goal.returns
returns c =
    free_on c.find.result c.blocks-start.ensures
    (first_from_Range _ _ _ c.find.result (λ i. ⊤) (λ i. Doubts (get_or c.args.s.now i 0) false) c.find.ensures.ran
    (λ k q e. tt)
    (λ k q e. search rules))
    c.unwrap_or.ensures
