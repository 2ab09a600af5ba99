-- `scan::name_at` meets its contract.
use Rattle.scan.proofs.Prefixes.{named, name_ends, name_stops}
use Rattle.scan.proofs.name_at.Goals.{else-end-s-via-then-end-s+else-s-end-eq58, else-end-s-via-else-end-s}
use Rattle.scan.proofs.name_at.Goals as goal

pub returns-then-s-end-eq58 : goal.returns-then-s-end-eq58
returns-then-s-end-eq58 c = search named

pub returns : goal.returns
returns c = elim c.else-end-s.branch [
  | else-end-s-via-then-end-s+else-s-end-eq58 w ↦ name_stops c.nc_name_end-end.ensures w.if-s-end-eq58.false
  | else-end-s-via-else-end-s w ↦ name_ends c.nc_name_end-end.ensures w.if-end-s.false
]
