-- Worked examples: documents that are accepted, and the least breach of each.
use Rattle.std.specs.Prelude.{ℕ, ◌≡◌, refl, List, [], ◌∷◌, ◌++◌, map, Option, Some, None}
use Prim.Native.String as string
use Rattle.slices.specs.Bytes.{bytes}
use Rattle.utf8.specs.WellFormed.{sequence}
use Rattle.utf8.specs.WhiteSpace.{characters}
use Rattle.utf8.specs.Encoding.{utf8}
use Rattle.scan.specs.Ignorable.{ignorable}
use Rattle.references.specs.Characters.{xml_char}
use Rattle.references.specs.Unescape.{reference, piece, unescape}
use Rattle.document.specs.Tags.{attribute, gather}
use Rattle.document.specs.Tokens.{opening, closing, next, tokens}
use Rattle.document.specs.Elements.{kind_of, may_hold, opens_as}
use Rattle.document.specs.Reading.{step, begins, unsupported, docstring_in}
use Rattle.profile.specs.Names.{name_start_char, name_more, name_char}
use Rattle.profile.specs.Profile.{char_fault, name_fault, hyphens, raw}
use Rattle.profile.specs.After.{instruction, comment, misc, after_fault}
use Rattle.met.specs.Passed.{passed_over}
use Rattle.met.specs.Met.{met_tokens}
use Rattle.breaches.specs.Least.{lesser, least}
use Rattle.breaches.specs.Breaches.{in_value, in_comment, in_name, breaches}

abbrev pub cases : List (string.String × Option ℕ)
cases =
    ("<node><docstring><b c=\"<\"/></docstring></node>", Some 23)
    ∷ ("<node a='&#x41;' b='1&#X41;'/>", Some 21)
    ∷ ("<node>&#X41; & ]]></node>", None)
    ∷ ("<!--a---><node/>", Some 5)
    ∷ ("<node><x><!--a- -b--><!-- -- --></x></node>", Some 26)
    ∷ ("<!x [<!-- -- -->]><node/>", None)
    ∷ ("<![CDATA[--]]><?p --?><node/>", None)
    ∷ ("<node><-/></node>", Some 7)
    ∷ ("<node><a\"b/></node>", Some 8)
    ∷ ("<node a:b='1' 2='3'/>", Some 14)
    ∷ ("<tp:node/>", Some 1)
    ∷ ("junk<node/> <!--a--><?b?>\n", None)
    ∷ ("<node/><!-- -- -->", Some 12)
    ∷ ("<node/><!-->", Some 7)
    ∷ ("<node/>x<!-- -- -->", Some 7)
    ∷ []

pub worked : map (λ c. least (breaches (bytes c.0))) cases ≡ map (λ c. c.1) cases
unfolding least lesser breaches in_value in_comment in_name name_fault char_fault hyphens raw name_start_char name_more name_char characters sequence utf8 xml_char after_fault misc comment instruction met_tokens passed_over tokens next ignorable opening closing gather attribute unescape piece reference step begins unsupported docstring_in kind_of may_hold opens_as
worked = refl

-- U+0001 in a declaration; in a comment, before what stands after the root; FF in a tag
abbrev pub controls : List (List ℕ × Option ℕ)
controls =
    (bytes "<!x \"" ++ (1 ∷ bytes "\"><node/>"), Some 5)
    ∷ (bytes "<node><!--" ++ (1 ∷ bytes "--></node>x"), Some 10)
    ∷ (bytes "<node" ++ (12 ∷ bytes "a='1'/>"), Some 5)
    ∷ []

pub controls_worked : map (λ c. least (breaches c.0)) controls ≡ map (λ c. c.1) controls
unfolding least lesser breaches in_value in_comment in_name name_fault char_fault hyphens raw name_start_char name_more name_char characters sequence utf8 xml_char after_fault misc comment instruction met_tokens passed_over tokens next ignorable opening closing gather attribute unescape piece reference step begins unsupported docstring_in kind_of may_hold opens_as
controls_worked = refl
