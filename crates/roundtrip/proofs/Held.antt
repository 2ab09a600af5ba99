-- What rows keep here: of an attribute its raw bytes and the text that they show, of an element's place nothing. So rows and states
-- have no places in them.
use Prim.Native.Nat.{ℕ}
use mathlib.Core.List.{List}
use Rattle.references.specs.Escape.{escape}
use Rattle.document.specs.Tags.{Shown}
use Rattle.document.specs.Rows as rows
use Rattle.document.specs.Rows.{Warning, Tables}
use Rattle.document.specs.Elements.{Keeping}
use Rattle.document.specs.Reading as reading
use Rattle.document.specs.Reading.{Frame}
use Rattle.items.specs.Content as content
use Rattle.items.specs.View.{view_row}

pub record Held : Type 0 where
  pub raw : List ℕ
  pub value : List ℕ

abbrev pub held : Shown → Held
held s = record { raw = s.attr.raw; value = s.value }

abbrev pub keeps : Keeping Held
keeps = record { attribute = held; place = λ p. 0 }

-- what is written for a text
abbrev pub mark : List ℕ → Held
mark v = record { raw = escape v; value = v }

abbrev pub Row : Type 0
Row = rows.Row Held

abbrev pub State : Type 0
State = reading.State Held

-- a row whose texts are written
abbrev pub marked : content.Row → Row
marked = view_row mark

abbrev pub table : List Row → List Warning → Tables Held
table rs ws = record { rows = rs; warnings = ws }

-- elements are open, and there are these rows and warnings
abbrev pub inside : List Frame → List Row → List Warning → State
inside fs rs ws = reading.reading fs (table rs ws)
