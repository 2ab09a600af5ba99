-- Worked examples: what is ignorable from a document's beginning on, and the colons of a name.
use Rattle.std.specs.Prelude.{ℕ, ◌≡◌, refl, List, [], ◌∷◌, map, drop, Option, Some, None, Result, Ok, Err}
use Prim.Native.String as string
use Rattle.slices.specs.Bytes.{bytes, span}
use Rattle.scan.specs.Classes.{name_byte}
use Rattle.scan.specs.Colons.{colons, colons_from}
use Rattle.scan.specs.Ignorable.{ignorable}
use Rattle.scan.specs.declared.Colons.{Colons}
use Rattle.faults.specs.Fault.{fault}
use Rattle.faults.specs.declared.Fault.{Fault}

-- a document, and where reading on from its beginning comes to
abbrev pub cases : List (string.String × Result ℕ Fault)
cases =
    ("", Ok 0)
    ∷ ("ab <a", Ok 3)
    ∷ ("<!-->", Err (fault 22 4))
    ∷ ("<!--->", Err (fault 22 4))
    ∷ ("<!----><a/>", Ok 7)
    ∷ ("<!->", Ok 4)
    ∷ ("<!>", Ok 3)
    ∷ ("<![CDATA", Err (fault 25 8))
    ∷ ("<![CDATA]>", Ok 10)
    ∷ ("<![CDATA[]>", Err (fault 23 9))
    ∷ ("<![CDATA[]]>", Ok 12)
    ∷ ("<?>", Err (fault 24 2))
    ∷ ("<??>", Ok 4)
    ∷ ("<!D [<!--'-->]><a/>", Err (fault 25 10))
    ∷ ("<!D ]\">\" [>]><a/>", Ok 13)
    ∷ ("<!D [", Err (fault 25 5))
    ∷ []

pub worked : map (λ c. ignorable (bytes c.0) 0) cases ≡ map (λ c. c.1) cases
unfolding ignorable
worked = refl

-- a document, a place, and the colons of the name there
abbrev pub names : List (string.String × ℕ × Option Colons)
names =
    ("<node>", 1, None)
    ∷ ("<tp:enum>", 1, Some (colons 3 3))
    ∷ ("<a:b:type=", 1, Some (colons 2 4))
    ∷ ("</x::y:>", 2, Some (colons 3 6))
    ∷ (":", 0, Some (colons 0 0))
    ∷ ("<a b:c='1:2'>", 1, None)
    ∷ ("<a b:c='1:2'>", 3, Some (colons 4 4))
    ∷ ("<>:", 1, None)
    ∷ []

pub colons_worked : map (λ c. colons_from (span name_byte (drop c.1 (bytes c.0))) c.1) names ≡ map (λ c. c.2) names
colons_worked = refl
