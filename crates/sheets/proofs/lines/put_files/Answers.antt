-- What `sheets::lines::put_files` leaves to show.
use Rattle.sheets.proofs.Lining.{parts}
use Rattle.sheets.proofs.lines.put_files.Goals as goal

pub returns : goal.returns
returns c = search parts
