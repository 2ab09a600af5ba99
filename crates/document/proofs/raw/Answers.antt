-- `document::raw` meets its contract.
use Rattle.document.proofs.Held.{lying}
use Rattle.document.proofs.raw.Goals as goal

pub overflow_cast-at : goal.overflow_cast-at
overflow_cast-at c = search lying

pub overflow_cast-end : goal.overflow_cast-end
overflow_cast-end c = search lying

pub overflow_add-end : goal.overflow_add-end
overflow_add-end c = search lying

pub slice_bounds-result-count : goal.slice_bounds-result-count
slice_bounds-result-count c = search lying

pub slice_bounds-result-start : goal.slice_bounds-result-start
slice_bounds-result-start c = search lying

pub slice_bounds-result-end : goal.slice_bounds-result-end
slice_bounds-result-end c = search lying

pub returns : goal.returns
returns c = search lying
