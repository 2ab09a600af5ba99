-- What `scan::prefixed` leaves to show. Its loop is in Invariants.antt.
use Rattle.scan.proofs.Prefixes.{named}
use Rattle.scan.proofs.prefixed.Goals as goal

pub loop-end-init : goal.loop-end-init
loop-end-init c = search named

pub loop-end-preserved : goal.loop-end-preserved
loop-end-preserved c = search named
