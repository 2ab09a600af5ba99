-- Worked cases: documents, each with what reading it comes to (the refusal, or the words and text of the tables), and a value
-- with what it is escaped to.
use Rattle.std.specs.Prelude.{ℕ, ◌≡◌, refl, List, [], ◌∷◌, ◌++◌, map, replicate}
use Rattle.slices.specs.Bytes.{bytes}
use Rattle.utf8.specs.WellFormed.{sequence, ill_formed}
use Rattle.utf8.specs.WhiteSpace.{characters, trim_start, trim_end}
use Rattle.scan.specs.Ignorable.{ignorable}
use Rattle.names.specs.Names.{interface_name, member_name}
use Rattle.names.specs.Signature.{signature}
use Rattle.utf8.specs.Encoding.{utf8}
use Rattle.references.specs.Characters.{xml_char}
use Rattle.references.specs.Escape.{escape}
use Rattle.references.specs.Unescape.{reference, piece, unescape}
use Rattle.document.specs.Tags.{attribute, gather, Shown}
use Rattle.document.specs.Tokens.{opening, closing, next, tokens}
use Rattle.document.specs.Rows.{row_words, words_from, texts, warned}
use Rattle.document.specs.Refusals.{excerpt, nothing, bare, showing, showing_both, fault_in}
use Rattle.document.specs.declared.Refusal.{Refusal}
use Rattle.document.specs.Elements.{kind_of, may_hold, opens_as}
use Rattle.document.specs.Reading.{State, begun, reading, accepted, refused, begins, unsupported, docstring_in, step, run}
use Rattle.document.specs.Whole.{meaning}

-- a refusal; or the words of rows, the text and the words of warnings
pub data Result : Type 0 where
  turned : Refusal → Result
  tables : List ℕ → List ℕ → List ℕ → Result
  unended : Result
  written : List ℕ → Result

abbrev pub result_of : State Shown → Result
result_of begun = unended
result_of (reading fs t) = unended
result_of (accepted t) = tables (words_from 0 t.rows) (texts t.rows) (warned t.warnings)
result_of (refused x) = turned x

-- a document to read, or a value to escape
pub data Given : Type 0 where
  document value : List ℕ → Given

abbrev pub result_for : Given → Result
result_for (document s) = result_of (meaning s)
result_for (value s) = written (escape s)

abbrev pub node : List ℕ
node = 1 ∷ replicate 15 0

abbrev pub cases : List (Given × Result)
cases =
    (document (bytes ""), turned (bare 3 0))
    ∷ (document (bytes "<x/>"), tables node [] [])
    ∷ (document (bytes "<a>"), turned (showing 5 3 (excerpt 1 (bytes "a"))))
    ∷ (document (bytes "<a></b>"), turned (showing_both 6 7 (excerpt 5 (bytes "b")) (excerpt 1 (bytes "a"))))
    ∷ (
      document (bytes "<a><node><node></node></x>"),
      turned (showing_both 6 26 (excerpt 24 (bytes "x")) (excerpt 4 (bytes "node"))),
    )
    ∷ (document (bytes "<a><x><y><z></z></x>"), turned (showing_both 6 20 (excerpt 18 (bytes "x")) (excerpt 7 (bytes "y"))))
    ∷ (document (bytes "<a><docstring><p>"), turned (showing 5 17 (excerpt 15 (bytes "p"))))
    ∷ (document (bytes "</a>"), turned (bare 4 1))
    ∷ (document (bytes "<a b=c>"), turned (bare 4 3))
    ∷ (document (bytes "<a x=\"1\" x=\"&q;\"/>"), turned (showing 8 9 (excerpt 9 (bytes "x"))))
    ∷ (document (bytes "<a x=\"&q;\" x=\"1\"/>"), turned (showing 10 6 (excerpt 6 (bytes "&q;"))))
    ∷ (document (bytes "<a x=\"&#0; &q;\"/>"), turned (showing 11 6 (excerpt 6 (bytes "&#0;"))))
    ∷ (document (bytes "<a><interface/></a>"), turned (record { place = 4; number = 12; key = 1; first = excerpt 4 (bytes "interface"); second = nothing }))
    ∷ (document (bytes "<a name=\"a" ++ (13 ∷ 10 ∷ bytes "b\"/>")), tables (1 ∷ 0 ∷ 2 ∷ 0 ∷ 3 ∷ replicate 11 0) (bytes "a b") [])
    ∷ (document (bytes "<a name=\"a&#10;b\"/>"), tables (1 ∷ 0 ∷ 2 ∷ 0 ∷ 3 ∷ replicate 11 0) (97 ∷ 10 ∷ 98 ∷ []) [])
    ∷ (document (bytes "<a name=\"&#X41;\"/>"), tables (1 ∷ 0 ∷ 2 ∷ 0 ∷ 1 ∷ replicate 11 0) (bytes "A") [])
    ∷ (value (bytes "<\"&"), written (bytes "&lt;&quot;&amp;"))
    ∷ (document (bytes "<node><docstring> a </docstring><docstring/></node>"), tables (1 ∷ replicate 10 0 ++ (1 ∷ 18 ∷ 1 ∷ 0 ∷ 0 ∷ [])) [] [])
    ∷ (
      document (bytes "<node><interface name=\"a.b\"><method name=\"M\"/><x/></interface></node>"),
      tables (node ++ (2 ∷ 1 ∷ 1 ∷ 23 ∷ 3 ∷ replicate 10 0) ++ (6 ∷ []) ++ (3 ∷ 2 ∷ 1 ∷ 42 ∷ 1 ∷ replicate 10 0) ++ (28 ∷ [])) [] (1 ∷ 46 ∷ 47 ∷ 1 ∷ []),
    )
    ∷ []

pub worked : map (λ c. result_for c.0) cases ≡ map (λ c. c.1) cases
unfolding meaning fault_in escape ill_formed sequence run step begins unsupported docstring_in opens_as kind_of may_hold tokens next opening closing gather attribute unescape piece reference xml_char utf8 ignorable row_words trim_start trim_end characters interface_name member_name signature
worked = refl
