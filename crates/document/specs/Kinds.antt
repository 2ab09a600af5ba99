-- The kinds of elements and of their rows (docs/FORMAT.md, Tables), and the lists of kinds that definitions use. `document::kinds` has the
-- same numbers for the code.
use Rattle.std.specs.Prelude.{ℕ, List, [], ◌∷◌}

abbrev pub node : ℕ
node = 1

abbrev pub interface : ℕ
interface = 2

abbrev pub method : ℕ
method = 3

abbrev pub property : ℕ
property = 4

abbrev pub signal : ℕ
signal = 5

abbrev pub annotation : ℕ
annotation = 6

abbrev pub arg : ℕ
arg = 7

abbrev pub simple_type : ℕ
simple_type = 8

abbrev pub enum : ℕ
enum = 9

abbrev pub enumvalue : ℕ
enumvalue = 10

abbrev pub struct : ℕ
struct = 11

abbrev pub member : ℕ
member = 12

abbrev pub mapping : ℕ
mapping = 13

-- no row is of this kind
abbrev pub docstring : ℕ
docstring = 14

-- type definitions, and those of them that have a type
abbrev pub definitions : List ℕ
definitions = simple_type ∷ enum ∷ struct ∷ mapping ∷ []

abbrev pub typed : List ℕ
typed = simple_type ∷ enum ∷ []

-- what stands in a definition
abbrev pub parts : List ℕ
parts = enumvalue ∷ member ∷ []

abbrev pub callables : List ℕ
callables = method ∷ signal ∷ []

-- what is written by itself
abbrev pub written : List ℕ
written = method ∷ signal ∷ annotation ∷ arg ∷ []

-- property and arg: they have a type, which may be empty, and hold the same
abbrev pub values : List ℕ
values = property ∷ arg ∷ []

-- what a node holds, an interface, a method or a signal, a property or an arg
abbrev pub in_node : List ℕ
in_node = node ∷ interface ∷ definitions

abbrev pub in_interface : List ℕ
in_interface = method ∷ property ∷ signal ∷ annotation ∷ definitions

abbrev pub in_callable : List ℕ
in_callable = annotation ∷ arg ∷ []

abbrev pub in_value : List ℕ
in_value = annotation ∷ []
