-- `sheets::count_firsts` meets its contract. The invariant: what is left to count makes of the words what was asked.
use Rattle.std.specs.Iterator.Adapters.{take_count, take_source}
use Rattle.std.specs.Slice.Iter.{chunks_rest, chunks_size}
use Rattle.sheets.proofs.Counting.{Counting}
use Rattle.sheets.proofs.count_firsts.Given as goal

abbrev pub invariant-loop-record : goal.invariant-loop-record
invariant-loop-record l =
    Counting l.width l.n l.words l.initial.table l.table (take_count l.record-iterator) (chunks_size (take_source l.record-iterator)) (chunks_rest (take_source l.record-iterator))
