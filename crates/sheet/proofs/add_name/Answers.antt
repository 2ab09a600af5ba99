-- `sheet::add_name` meets its contract.
use Rattle.sheets.proofs.Filing.{filing}
use Rattle.sheet.proofs.add_name.Goals as goal

pub returns-then-is_openable : goal.returns-then-is_openable
returns-then-is_openable g c = search filing

pub returns-else-is_openable : goal.returns-else-is_openable
returns-else-is_openable g c = search filing
