-- A name and its colons (58): the first and the last, as places in the document.
use Rattle.std.specs.Prelude.{ℕ, suc, ◌≡◌, List, [], ◌∷◌, eqb, drop, Option, Some, None}
use Rattle.slices.specs.Bytes.{if, span}
use Rattle.slices.specs.Run.{Run}
use Rattle.scan.specs.Classes.{name_byte}
use Rattle.scan.specs.declared.Colons.{Colons}
use Rattle.scan.specs.declared.Name.{Name}

-- a first and a last
abbrev pub colons : ℕ → ℕ → Colons
colons first last = record { first = first; last = last }

-- a colon at p, before those of the rest
abbrev pub colon_at : ℕ → Option Colons → Option Colons
colon_at p None = Some (colons p p)
colon_at p (Some c) = Some (colons p c.last)

-- the colons of a name that begins at p
abbrev pub colons_from : List ℕ → ℕ → Option Colons
colons_from [] p = None
colons_from (b ∷ n) p = let r = colons_from n (suc p) in if (eqb b 58) (colon_at p r) r

-- what scanning a name from a place on says: where it ends, and its colons
pub record Scanned (doc : List ℕ) (from : ℕ) (r : Name) : Type 0 where
  pub run : Run name_byte doc from r.end
  pub colons : r.colons ≡ colons_from (span name_byte (drop from doc)) from
