-- `breaches::step` meets its contract. A closing tag, or a start tag.
use Rattle.breaches.proofs.Walking.{steps}
use Rattle.breaches.proofs.step.Goals as goal

pub bounds-doc-lt : goal.bounds-doc-lt
bounds-doc-lt c = search steps

pub overflow_sub-result : goal.overflow_sub-result
overflow_sub-result c = search steps

pub returns-then-doc-lt-eq47 : goal.returns-then-doc-lt-eq47
returns-then-doc-lt-eq47 c = search steps

pub start_breach-t-requires : goal.start_breach-t-requires
start_breach-t-requires c = search steps

pub returns-then-t : goal.returns-then-t
returns-then-t c = search steps

pub returns : goal.returns
returns c = search steps
