-- Worked values: those of docs/FORMAT.md and of XML 1.0, section 3.3.3, each with what it shows.
use Rattle.std.specs.Prelude.{ℕ, ◌≡◌, refl, List, [], ◌∷◌, map}
use Rattle.slices.specs.Bytes.{bytes}
use Rattle.utf8.specs.Encoding.{utf8}
use Rattle.answers.specs.Text.{Text, text, wrong}
use Rattle.references.specs.Characters.{xml_char}
use Rattle.references.specs.Escape.{escape}
use Rattle.references.specs.Unescape.{reference, piece, unescape}
use Rattle.references.specs.Normal.{line_ends}

abbrev pub values : List (List ℕ × Text)
values =
    (97 ∷ 13 ∷ 10 ∷ 98 ∷ [], text (bytes "a b"))
    ∷ (13 ∷ 13 ∷ 10 ∷ [], text (bytes "  "))
    ∷ (bytes "a&#10;b", text (97 ∷ 10 ∷ 98 ∷ []))
    ∷ (bytes "&#X41;&#x0000e9;", text (65 ∷ 195 ∷ 169 ∷ []))
    ∷ (13 ∷ bytes "&#10;", text (32 ∷ 10 ∷ []))
    ∷ (13 ∷ 10 ∷ 13 ∷ 10 ∷ bytes "xyz", text (bytes "  xyz"))
    ∷ (bytes "&#xd;&#xd;A&#xa;&#xa;B&#xd;&#xa;", text (13 ∷ 13 ∷ 65 ∷ 10 ∷ 10 ∷ 66 ∷ 13 ∷ 10 ∷ []))
    ∷ (bytes "x&#0;", wrong 11 1)
    ∷ (bytes "&#4294967361;", wrong 11 0)
    ∷ (bytes "&amp;&;", wrong 10 5)
    ∷ (bytes "&a &lt;", wrong 10 0)
    ∷ (bytes "&#65 &lt;", wrong 11 0)
    ∷ (bytes "&#0", wrong 9 0)
    ∷ (13 ∷ 10 ∷ bytes "&q;", wrong 10 2)
    ∷ (line_ends (13 ∷ 10 ∷ bytes "&q;"), wrong 10 1)
    ∷ []

pub worked : map (λ v. unescape v.0) values ≡ map (λ v. v.1) values
unfolding unescape piece reference xml_char utf8
worked = refl

pub worked_escape : escape (bytes "<\"&") ≡ bytes "&lt;&quot;&amp;"
unfolding escape
worked_escape = refl
