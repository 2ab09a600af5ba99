-- What begins at a `<` and is ignored, by where a scan came to.
use mathlib.Core.Path.{◌≡◌}
use Prim.Native.Nat.{ℕ}
use Rattle.std.proofs.Common.{Result, Ok, Err}
use Rattle.faults.specs.declared.Fault.{Fault}
use Rattle.scan.specs.Ignorable.{ignored}
use Rattle.scan.specs.declared.Markup.TheVariants.{Tag, Ignored}

-- it ends where the scan came to
pub ignored_place : (x : Result ℕ Fault) (q : ℕ) → ignored x ≡ Ok (Ignored q) → x ≡ Ok q
ignored_place (Ok p) q e = cc
ignored_place (Err f) q e = cc

-- it is no tag
pub ignored_no_tag : {A : Type 0} (x : Result ℕ Fault) → ignored x ≡ Ok Tag → A
ignored_no_tag (Ok p) e = cc
ignored_no_tag (Err f) e = cc
