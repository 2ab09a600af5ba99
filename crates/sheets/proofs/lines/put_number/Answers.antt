-- What `sheets::lines::put_number` leaves to show.
use Rattle.sheets.proofs.Lining.{parts}
use Rattle.sheets.proofs.lines.put_number.Goals as goal

pub returns : goal.returns
returns c = search parts
