-- `strict::read_strict` meets its contract. What is accepted is judged: the file itself, or the text that it decodes to.
use lib.Seq.{length-take-le}
use Rattle.strict.proofs.Judging.{entry}
use Rattle.strict.proofs.read_strict.Goals as goal

pub judge-requires : goal.judge-requires
judge-requires c = search entry

pub slice_bounds-judge-end : goal.slice_bounds-judge-end
slice_bounds-judge-end c = search entry

pub slice_bounds-judge-end-else-end-eq0 : goal.slice_bounds-judge-end-else-end-eq0
slice_bounds-judge-end-else-end-eq0 c = search (entry, length-take-le)

pub judge-requires-else-end-eq0 : goal.judge-requires-else-end-eq0
judge-requires-else-end-eq0 c = search entry

pub returns-in-Err : goal.returns-in-Err
returns-in-Err c = search entry

pub returns-then-end-eq0 : goal.returns-then-end-eq0
returns-then-end-eq0 c = search entry

pub returns-else-end-eq0 : goal.returns-else-end-eq0
returns-else-end-eq0 c = search entry
