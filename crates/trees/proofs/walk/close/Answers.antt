-- What `trees::walk::close` leaves to show.
use Rattle.trees.proofs.Walking.{closing}
use Rattle.trees.proofs.walk.close.Goals as goal

pub returns-then-i-top : goal.returns-then-i-top
returns-then-i-top c = search closing

pub overflow_sub-result : goal.overflow_sub-result
overflow_sub-result c = search closing

pub around-requires : goal.around-requires
around-requires c = search closing
