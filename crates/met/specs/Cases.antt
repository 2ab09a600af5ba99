-- Worked examples: a document, the places of the comments that reading meets, and where it ends.
use Rattle.std.specs.Prelude.{ℕ, ◌≡◌, refl, List, [], ◌∷◌, map}
use Prim.Native.String as string
use Rattle.slices.specs.Bytes.{bytes}
use Rattle.scan.specs.Ignorable.{ignorable}
use Rattle.references.specs.Unescape.{reference, piece, unescape}
use Rattle.document.specs.Tags.{attribute, gather}
use Rattle.document.specs.Tokens.{opening, closing, next, tokens}
use Rattle.document.specs.Elements.{kind_of, may_hold, opens_as}
use Rattle.document.specs.Reading.{step, begins, unsupported, docstring_in}
use Rattle.met.specs.Passed.{passed_over}
use Rattle.met.specs.Met.{met_tokens, met_comments, root_end}

abbrev pub cases : List (string.String × List ℕ × ℕ)
cases =
    ("<!--a--> <!--b--><node><!--c--></node>", 0 ∷ 9 ∷ 23 ∷ [], 38)
    ∷ ("<node/><!--a-->", [], 7)
    ∷ ("<node><x><!--a--></x></node>", 9 ∷ [], 28)
    ∷ ("<node><docstring> <!--a--> </docstring></node>", 18 ∷ [], 46)
    ∷ ("<node></x><!--a--></node>", [], 10)
    ∷ ("<node><!--a--><!--b", 6 ∷ [], 18)
    ∷ ("<node a='<!-- -->'/>", [], 20)
    ∷ ("<!D '<!-- -->'><!D [<!-- -->]><node/>", [], 37)
    ∷ ("<![CDATA[<!-- -->]]><?p <!-- --?><node/>", [], 40)
    ∷ ("<!--<!--a--><node/> <node/>", 0 ∷ [], 19)
    ∷ []

pub worked : map (λ c. met_comments (bytes c.0)) cases ≡ map (λ c. c.1) cases
unfolding met_tokens passed_over tokens next ignorable opening closing gather attribute unescape piece reference step begins unsupported docstring_in kind_of may_hold opens_as
worked = refl

pub ended : map (λ c. root_end (bytes c.0)) cases ≡ map (λ c. c.2) cases
unfolding met_tokens passed_over tokens next ignorable opening closing gather attribute unescape piece reference step begins unsupported docstring_in kind_of may_hold opens_as
ended = refl
