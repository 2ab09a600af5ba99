-- The bytes that follow the first of a sequence.
use Rattle.std.specs.Prelude.{ℕ, suc, List, length}
use Rattle.slices.specs.Bytes.{if}
use Rattle.utf8.specs.WellFormed.{Range, to, begins}

abbrev pub continuation : Range
continuation = to 0x80 0xbf

-- how many bytes a sequence takes, by the ranges of those that follow the first, or 0
unfoldable pub taken : List Range → List ℕ → ℕ
taken rs l = if (begins rs l) (suc (length rs)) 0
