-- What `attributes::many::gather` leaves to show. Its loop is in Invariants.antt.
use mathlib.Core.Bool.{false}
use native.Mathlib.Omega.{arith}
use lib.ListN.{length-replicate}
use Rattle.attributes.specs.Lookup.{blank}
use Rattle.attributes.proofs.Marking.{marks, mark_begins}
use Rattle.attributes.proofs.many.gather.Goals as goal

pub loop-attrs-init : goal.loop-attrs-init
loop-attrs-init c = mark_begins (omega arith) (length-replicate 256 blank) (length-replicate 4096 false)

pub returns-in-None : goal.returns-in-None
returns-in-None c = search marks

pub returns-then-n-ge256 : goal.returns-then-n-ge256
returns-then-n-ge256 c = search marks

pub loop-attrs-preserved : goal.loop-attrs-preserved
loop-attrs-preserved c = search marks
