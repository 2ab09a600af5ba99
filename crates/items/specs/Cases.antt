-- Worked cases: tables, each with what checking it says, or what writing one of its rows answers.
use Rattle.std.specs.Prelude.{ℕ, ◌≡◌, refl, List, [], ◌∷◌, ◌++◌, map, replicate}
use Rattle.slices.specs.Bytes.{bytes}
use Rattle.utf8.specs.WellFormed.{sequence, ill_formed}
use Rattle.names.specs.Names.{interface_name, member_name}
use Rattle.names.specs.Signature.{signature}
use Rattle.tables.specs.Triple.{shown}
use Rattle.answers.specs.Text.{Text, text, wrong}
use Rattle.references.specs.Escape.{escape}
use Rattle.document.specs.Elements.{may_hold}
use Rattle.items.specs.Sound.{good_triple, sound_row, Soundness, sound, unsound, soundness, good_row, counted}
use Rattle.items.specs.Written.{tag, closing_tag}
use Rattle.items.specs.Content.{content}
use Rattle.items.specs.Writing.{writing}
use Rattle.items.specs.Several.{several_writing, several_ends}

-- n rows of a table are checked, or row i of them is asked for with some room, or several with room for bytes and words: the text,
-- the words, n, i or the rows, room
pub data Asked : Type 0 where
  checks : List ℕ → List ℕ → ℕ → Asked
  writes : List ℕ → List ℕ → ℕ → ℕ → ℕ → Asked
  writes_all : List ℕ → List ℕ → ℕ → List ℕ → ℕ → ℕ → Asked

pub data Result : Type 0 where
  said : Soundness → Result
  answered : Text → Result
  ended : Text → List ℕ → Result

abbrev pub document : List ℕ
document = bytes "<node><interface name=\"a.b\"><method name=\"M\"/><x/></interface></node>"

abbrev pub result_for : Asked → Result
result_for (checks x ws n) = said (soundness document x ws n)
result_for (writes x ws n i room) = answered (writing document x ws n i room)
result_for (writes_all x ws n is room slots) = ended (several_writing document x ws n is room slots) (several_ends document x ws n is room slots)

-- a node and an interface in it; then its method
abbrev pub front : List ℕ
front = 1 ∷ replicate 15 0 ++ (2 ∷ 1 ∷ 1 ∷ 23 ∷ 3 ∷ replicate 11 0)

abbrev pub rows : List ℕ
rows = front ++ (3 ∷ 2 ∷ 1 ∷ 42 ∷ 1 ∷ replicate 11 0)

-- an arg too, whose parent's row plus one is p: the method is 3, the arg itself 4
abbrev pub arg : ℕ → List ℕ
arg p = rows ++ (7 ∷ p ∷ 0 ∷ 0 ∷ 0 ∷ 2 ∷ 3 ∷ 1 ∷ replicate 6 0 ++ (2 ∷ 0 ∷ []))

-- an annotation whose value is in the text
abbrev pub annotation : List ℕ
annotation = front ++ (6 ∷ 2 ∷ 1 ∷ 23 ∷ 3 ∷ 2 ∷ 0 ∷ 3 ∷ replicate 8 0)

-- a node whose element began at a place; the document has 69 bytes
abbrev pub begun : ℕ → List ℕ
begun p = 1 ∷ replicate 14 0 ++ (p ∷ [])

abbrev pub special : List ℕ
special = bytes "<\"&s"

-- a node and a definition of kind k in it, then rows
abbrev pub defined : ℕ → List ℕ → List ℕ
defined k more = 1 ∷ replicate 15 0 ++ (k ∷ 1 ∷ 1 ∷ 23 ∷ 3 ∷ replicate 11 0) ++ more

-- a row of kind k in it, with words 5-7
abbrev pub part : ℕ → ℕ → ℕ → ℕ → List ℕ
part k source start len = k ∷ 2 ∷ 1 ∷ 23 ∷ 3 ∷ source ∷ start ∷ len ∷ replicate 8 0

-- a member with a signature of the text: `s` at 0, `ss` too, `v` at 2; one without
abbrev pub signatures : List ℕ
signatures = bytes "ssv"

abbrev pub signed : ℕ → ℕ → List ℕ
signed start len = part 12 2 start len

abbrev pub unsigned : List ℕ
unsigned = part 12 0 0 0

abbrev pub cases : List (Asked × Result)
cases =
    (checks [] rows 3, said sound)
    ∷ (checks [] rows 0, said sound)
    ∷ (checks [] rows 4, said (unsound 3))
    ∷ (checks [] (begun 68) 1, said sound)
    ∷ (checks [] (begun 69) 1, said (unsound 0))
    ∷ (checks [] rows 262145, said (unsound 262144))
    ∷ (checks special (arg 3) 4, said sound)
    ∷ (checks special (arg 4) 4, said (unsound 3))
    ∷ (checks [] (arg 3) 4, said (unsound 3))
    ∷ (checks special annotation 3, said sound)
    ∷ (checks signatures (defined 11 (99 ∷ replicate 15 0)) 3, said (unsound 1))
    ∷ (checks signatures (defined 11 unsigned) 3, said (unsound 2))
    ∷ (checks signatures (defined 13 (unsigned ++ signed 0 1)) 4, said (unsound 1))
    ∷ (checks signatures (defined 13 (signed 0 1 ++ unsigned)) 4, said (unsound 3))
    ∷ (checks signatures (defined 11 (signed 0 2)) 3, said sound)
    ∷ (checks signatures (defined 11 (signed 0 2)) 2, said (unsound 1))
    ∷ (checks signatures (defined 13 (signed 0 1 ++ signed 2 1)) 4, said sound)
    ∷ (checks signatures (defined 13 (signed 0 1 ++ signed 2 1)) 3, said (unsound 1))
    ∷ (checks signatures (defined 13 (signed 0 1 ++ signed 0 1 ++ signed 0 1)) 5, said (unsound 1))
    ∷ (checks signatures (defined 13 (signed 2 1 ++ signed 0 1)) 4, said (unsound 1))
    ∷ (checks signatures (defined 13 (signed 0 2 ++ signed 0 1)) 4, said (unsound 1))
    ∷ (checks signatures (defined 13 (signed 3 1 ++ signed 0 1)) 4, said (unsound 1))
    ∷ (checks signatures (defined 13 (signed 0 1 ++ part 10 2 0 1 ++ signed 0 1)) 5, said (unsound 3))
    ∷ (writes [] rows 3 2 18, answered (text (bytes "<method name=\"M\"/>")))
    ∷ (writes [] rows 3 2 17, answered (wrong 21 18))
    ∷ (writes [] rows 3 1 18, answered (wrong 20 1))
    ∷ (writes [] rows 3 3 18, answered (wrong 20 3))
    ∷ (writes [] [] 0 0 18, answered (wrong 20 0))
    ∷ (writes [] rows 4 2 18, answered (wrong 19 3))
    ∷ (writes [] rows 262145 2 18, answered (wrong 19 262144))
    ∷ (writes special (arg 3) 4 2 64, answered (text (bytes "<method name=\"M\"><arg type=\"s\" direction=\"out\"/></method>")))
    ∷ (writes special annotation 3 2 64, answered (text (bytes "<annotation name=\"a.b\" value=\"&lt;&quot;&amp;\"/>")))
    ∷ (writes_all special (arg 3) 4 (3 ∷ 2 ∷ 3 ∷ []) 120 4, ended (text (bytes "<arg type=\"s\" direction=\"out\"/><method name=\"M\"><arg type=\"s\" direction=\"out\"/></method><arg type=\"s\" direction=\"out\"/>")) (31 ∷ 88 ∷ 119 ∷ 0 ∷ []))
    ∷ (writes_all special (arg 3) 4 (3 ∷ 2 ∷ 3 ∷ []) 118 3, ended (wrong 21 119) (0 ∷ 0 ∷ 0 ∷ []))
    ∷ (writes_all special (arg 3) 4 (3 ∷ 2 ∷ 3 ∷ []) 118 2, ended (wrong 18 3) (0 ∷ 0 ∷ []))
    ∷ (writes_all special (arg 3) 4 (3 ∷ 1 ∷ 4 ∷ []) 118 2, ended (wrong 20 1) (0 ∷ 0 ∷ []))
    ∷ (writes_all special (arg 3) 4 [] 0 1, ended (text []) (0 ∷ []))
    ∷ (writes_all [] rows 4 (3 ∷ []) 0 0, ended (wrong 19 3) [])
    ∷ []

pub worked : map (λ c. result_for c.0) cases ≡ map (λ c. c.1) cases
unfolding soundness sound_row good_row counted good_triple shown may_hold ill_formed sequence interface_name member_name signature writing several_writing several_ends content tag closing_tag escape
worked = refl
