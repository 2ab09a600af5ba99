-- What `sheets::lines::put_line` leaves to show.
use Rattle.sheets.proofs.Lining.{parts}
use Rattle.sheets.proofs.lines.put_line.Goals as goal

pub returns-then-count-eq0 : goal.returns-then-count-eq0
returns-then-count-eq0 c = search parts

pub returns : goal.returns
returns c = search parts
