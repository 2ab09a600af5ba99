-- What `sheets::lines::put_lines` leaves to show. Its loop is in Invariants.antt.
use Rattle.sheets.proofs.Lining.{lining}
use Rattle.sheets.proofs.lines.put_lines.Goals as goal

pub loop-k-preserved : goal.loop-k-preserved
loop-k-preserved c = search lining

pub returns : goal.returns
returns c = search lining
