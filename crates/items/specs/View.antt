-- Rows and states seen through a function on what rows keep of an attribute; the places of their elements are left out.
use Rattle.std.specs.Prelude.{ℕ, List, map}
use Rattle.std.proofs.Math.Option.{Option, none, some}
use Rattle.document.specs.Tags.{Shown}
use Rattle.document.specs.Rows.{Row, Tables}
use Rattle.document.specs.Reading.{State, begun, reading, accepted, refused}

module _ {A B : Type 0} (f : A → B) where
  abbrev pub over : Option A → Option B
  over none = none
  over (some a) = some (f a)

  abbrev pub view_row : Row A → Row B
  view_row r = record { kind = r.kind; parent = r.parent; name = over r.name; value = over r.value; tp = over r.tp; doc = r.doc; word = r.word; at = 0 }

  abbrev pub view_tables : Tables A → Tables B
  view_tables t = record { rows = map view_row t.rows; warnings = t.warnings }

  abbrev pub view : State A → State B
  view begun = begun
  view (reading fs t) = reading fs (view_tables t)
  view (accepted t) = accepted (view_tables t)
  view (refused x) = refused x

-- the text that a value shows
abbrev pub text_shown : Shown → List ℕ
text_shown s = s.value
