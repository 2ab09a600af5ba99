-- What `sheets::Counts::new` leaves to show.
use Rattle.sheets.proofs.Adding.{blank_stands}
use Rattle.sheets.proofs.Counts.new.Goals as goal

pub returns : goal.returns
returns c = blank_stands
