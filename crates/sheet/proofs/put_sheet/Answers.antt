-- What `sheet::put_sheet` leaves to show.
use Rattle.sheets.proofs.Filing.{list_printed}
use Rattle.sheet.proofs.put_sheet.Goals as goal

pub returns : goal.returns
returns g c = list_printed c.requires.short c.add_names-more.ensures c.new-counts.ensures c.put_sheet.ensures
