-- Worked cases: tables, each with what writing one of its rows with all under it answers.
use Rattle.std.specs.Prelude.{ℕ, ◌≡◌, refl, List, [], ◌∷◌, ◌++◌, map}
use Rattle.slices.specs.Bytes.{bytes}
use Rattle.utf8.specs.WellFormed.{sequence, ill_formed}
use Rattle.names.specs.Names.{interface_name, member_name}
use Rattle.names.specs.Signature.{signature}
use Rattle.tables.specs.Triple.{shown}
use Rattle.answers.specs.Text.{Text, text, wrong}
use Rattle.references.specs.Escape.{escape}
use Rattle.document.specs.Elements.{may_hold}
use Rattle.items.specs.Sound.{good_triple, sound_row, soundness, good_row, counted}
use Rattle.items.specs.Written.{tag, closing_tag}
use Rattle.trees.specs.Shape.{shape_at}
use Rattle.trees.specs.Written.{tag_of}
use Rattle.trees.specs.Writing.{tree_writing}

-- row i of n is asked for with some room: the words, n, i, room
pub record Asked : Type 0 where
  pub words : List ℕ
  pub claimed : ℕ
  pub row : ℕ
  pub room : ℕ

abbrev pub document : List ℕ
document = bytes "ABas.b <i>x</i> "

-- a triple of the document
abbrev pub at : ℕ → ℕ → List ℕ
at start len = 1 ∷ start ∷ len ∷ []

abbrev pub no : List ℕ
no = 0 ∷ 0 ∷ 0 ∷ []

abbrev pub row : ℕ → ℕ → List ℕ → List ℕ → List ℕ → List ℕ → ℕ → List ℕ
row k p n v t d w = k ∷ p ∷ n ++ v ++ t ++ d ++ (w ∷ 0 ∷ [])

-- a node with a node, and an interface with a signal, whose arg has a tp type and a docstring, an annotation and a method; then a struct
abbrev pub table : List ℕ
table =
    row 1 0 no no no (at 0 0) 0
    ++ row 1 1 (at 0 1) no no no 0
    ++ row 2 1 (at 2 4) no no no 0
    ++ row 5 3 (at 0 1) no no no 0
    ++ row 7 4 no (at 3 1) (at 1 1) (at 7 8) 2
    ++ row 6 3 (at 0 1) (at 7 1) no no 0
    ++ row 3 3 (at 1 1) no no no 0
    ++ row 11 3 (at 0 1) no no no 0
    ++ row 12 8 (at 0 1) (at 3 1) no no 0
    ++ row 4 3 (at 0 1) (at 3 1) no no 3

abbrev pub asked : ℕ → ℕ → Asked
asked i room = record { words = table; claimed = 10; row = i; room = room }

abbrev pub result_for : Asked → Text
result_for a = tree_writing document [] a.words a.claimed a.row a.room

abbrev pub cases : List (Asked × Text)
cases =
    (asked 1 99, text (bytes "<node name=\"A\"/>"))
    ∷ (asked 3 199, text (bytes "<signal name=\"A\"><arg type=\"s\" tp:type=\"B\" direction=\"out\"><tp:docstring><i>x</i></tp:docstring></arg></signal>"))
    ∷ (asked 5 99, text (bytes "<annotation name=\"A\" value=\"&lt;\"/>"))
    ∷ (asked 2 999, text (bytes "<interface name=\"as.b\"><tp:struct name=\"A\"><tp:member name=\"A\" type=\"s\"/></tp:struct><signal name=\"A\"><arg type=\"s\" tp:type=\"B\" direction=\"out\"><tp:docstring><i>x</i></tp:docstring></arg></signal><method name=\"B\"/><property name=\"A\" type=\"s\" access=\"readwrite\"/><annotation name=\"A\" value=\"&lt;\"/></interface>"))
    ∷ (asked 0 20, wrong 21 338)
    ∷ (asked 7 99, text (bytes "<tp:struct name=\"A\"><tp:member name=\"A\" type=\"s\"/></tp:struct>"))
    ∷ (asked 8 99, wrong 20 8)
    ∷ (asked 10 99, wrong 20 10)
    ∷ (asked 9 47, wrong 21 48)
    ∷ (asked 9 48, text (bytes "<property name=\"A\" type=\"s\" access=\"readwrite\"/>"))
    ∷ []

pub worked : map (λ c. result_for c.0) cases ≡ map (λ c. c.1) cases
unfolding tree_writing shape_at tag_of soundness sound_row good_row counted good_triple shown may_hold ill_formed sequence interface_name member_name signature tag closing_tag escape
worked = refl
