-- What the prefix of a name decides, by the colons that the name scanner tells: where the local name of an element begins, and whether
-- an attribute is a tp type. That these are `local_name` and `is_tp_type` are two laws.
use Rattle.std.specs.Prelude.{ℕ, suc, ◌-◌, ◌≡◌, List, Bool, false, not, ◌&&◌, eqb, drop, Option, Some, None}
use Rattle.slices.specs.Bytes.{bytes, same}
use Rattle.scan.specs.Colons.{colons_from}
use Rattle.scan.specs.declared.Colons.{Colons}
use Rattle.document.specs.Tags.{is_tp_type}
use Rattle.document.specs.Elements.{local_name}

-- where the local name begins in a name from p on: past the last colon, or at p
abbrev pub local_start : ℕ → Option Colons → ℕ
local_start p None = p
local_start p (Some q) = suc q.last

-- the name n from p on has a first colon, not at p, and exactly `type` follows it
abbrev pub tp_type_by : List ℕ → ℕ → Option Colons → Bool
tp_type_by n p None = false
tp_type_by n p (Some q) = not (eqb q.first p) && same (drop (suc q.first - p) n) (bytes "type")

-- the two laws
abbrev pub LocalNames : Type 0
LocalNames = (n : List ℕ) (p : ℕ) → local_name n ≡ drop (local_start p (colons_from n p) - p) n

abbrev pub TpTypes : Type 0
TpTypes = (n : List ℕ) (p : ℕ) → is_tp_type n ≡ tp_type_by n p (colons_from n p)
