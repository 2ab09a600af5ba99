-- `attributes::many::entry` meets its contract.
use Rattle.attributes.proofs.Marking.{entries}
use Rattle.attributes.proofs.many.entry.Goals as goal

pub overflow_add-to : goal.overflow_add-to
overflow_add-to c = search entries

pub slice_bounds-hash-count : goal.slice_bounds-hash-count
slice_bounds-hash-count c = search entries

pub slice_bounds-hash-start : goal.slice_bounds-hash-start
slice_bounds-hash-start c = search entries

pub slice_bounds-hash-end : goal.slice_bounds-hash-end
slice_bounds-hash-end c = search entries

pub hash-requires : goal.hash-requires
hash-requires c = search entries

pub overflow_cast-result : goal.overflow_cast-result
overflow_cast-result c = search entries

pub returns : goal.returns
returns c = search entries
