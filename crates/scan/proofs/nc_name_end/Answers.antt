-- `scan::nc_name_end` meets its contract: the run of the bytes of the class.
use Rattle.std.proofs.Common.{rules}
use Rattle.scan.specs.Classes.{nc_name_byte}
use Rattle.scan.proofs.nc_name_end.Goals as goal

pub returns : goal.returns
returns c = c.run_end.ensures nc_name_byte (λ b r h e. search rules)
