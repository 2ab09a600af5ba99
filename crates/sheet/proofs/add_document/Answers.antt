-- `sheet::add_document` meets its contract.
use Rattle.sheets.proofs.Filing.{filing}
use Rattle.sheet.proofs.add_document.Goals as goal

pub returns : goal.returns
returns c = search filing
