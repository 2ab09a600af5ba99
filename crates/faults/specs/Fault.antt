-- A fault by its number and its place.
use Rattle.std.specs.Prelude.{ℕ}
use Rattle.faults.specs.declared.Fault.{Fault}

abbrev pub fault : ℕ → ℕ → Fault
fault number place = record { number = number; place = place }
