-- What `sheet::add_names` leaves to show. Its loop is in Invariants.antt.
use borrow.Author.Rules.{rules}
use Rattle.sheets.proofs.Filing.{going_more, going_ends, going_full}
use Rattle.sheet.proofs.add_names.Goals as goal

pub returns-then-names-eq512 : goal.returns-then-names-eq512
returns-then-names-eq512 g c = going_full c.loop-name.invariant _ c.in-Some.ensures.some (search rules)

pub loop-name-preserved : goal.loop-name-preserved
loop-name-preserved g c = going_more c.loop-name.invariant _ c.in-Some.ensures.some (search rules) c.add_name.ensures

pub returns : goal.returns
returns g c = going_ends c.loop-name.invariant (c.in_default.ensures {u = tt}).none
