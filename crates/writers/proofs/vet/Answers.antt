-- `writers::vet` meets its contract.
use Rattle.std.proofs.lemmas.Result.{err_from_is_err_and}
use Rattle.writers.proofs.Entry.{admits, admitted_rows}
use Rattle.writers.proofs.Several.{vet_refused, vet_sound}
use Rattle.writers.proofs.vet.Goals as goal

pub returns-in_err-admit : goal.returns-in_err-admit
returns-in_err-admit c =
    let p = err_from_is_err_and c.from_residual.result c.from_residual.ensures.1 in
    rw (p.1, p.2) (vet_refused c.admit.ensures (c.in_err-admit.was {u = tt}))

pub vet_items-requires : goal.vet_items-requires
vet_items-requires c = admitted_rows (admits c.admit.ensures (c.in_ok-admit.was {u = tt}))

pub returns : goal.returns
returns c = vet_sound c.admit.ensures (c.in_ok-admit.was {u = tt}) c.vet_items.ensures
