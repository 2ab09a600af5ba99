-- `attributes::is_tp_type_at` meets its contract.
use Rattle.attributes.proofs.Keys.{prefixes}
use Rattle.attributes.proofs.is_tp_type_at.Goals as goal

pub overflow_add-next : goal.overflow_add-next
overflow_add-next c = search prefixes

pub slice_bounds-equal-count : goal.slice_bounds-equal-count
slice_bounds-equal-count c = search prefixes

pub slice_bounds-equal-start : goal.slice_bounds-equal-start
slice_bounds-equal-start c = search prefixes
