-- What `sheets::lines::put_sheet` leaves to show.
use Rattle.sheets.proofs.Lining.{sheet}
use Rattle.sheets.proofs.lines.put_sheet.Goals as goal

pub returns : goal.returns
returns c = search sheet
