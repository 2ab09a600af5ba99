-- `attributes::few::plain_end` meets its contract: what is left, after plain bytes alone, is what was asked.
use Prim.Native.Nat.{◌-◌}
use lib.ListN.{length}
use Rattle.document.specs.declared.Form.{Form}
use Rattle.attributes.proofs.Found.{Quoting}
use Rattle.attributes.proofs.few.plain_end.Given as goal

abbrev pub invariant-loop-at : goal.invariant-loop-at
invariant-loop-at l = Quoting l.quote l.doc l.from l.at Form.Plain

abbrev pub decreases-loop-at : goal.decreases-loop-at
decreases-loop-at l = length l.doc - l.at
