-- What `breaches::to_tag` leaves to show. Its loop is in Invariants.antt.
use mathlib.Core.Path.{◌≡◌}
use Rattle.std.specs.Prelude.{Ok}
use Rattle.scan.specs.declared.Markup.TheVariants.{Ignored}
use Rattle.breaches.proofs.Passing.{passing, pass_more}
use Rattle.breaches.proofs.to_tag.Goals as goal

pub loop-at-init : goal.loop-at-init
loop-at-init c = search passing

pub loop-at-preserved : goal.loop-at-preserved
loop-at-preserved c =
    let e : c.markup_at.result ≡ Ok (Ignored c.in-Ok-Ignored.next) = cc in
    pass_more c.loop-at.invariant c.loop-at-test.true c.markup_at.ensures e c.ignored_breach.ensures c.lesser-breach.ensures c.find-at-in-Ok-Ignored.ensures

pub returns-in-Ok-Tag : goal.returns-in-Ok-Tag
returns-in-Ok-Tag c = search passing

pub returns-in-Err : goal.returns-in-Err
returns-in-Err c = search passing

pub returns : goal.returns
returns c = search passing
