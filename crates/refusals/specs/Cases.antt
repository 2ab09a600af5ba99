-- Worked cases: documents, each with the messages of its refusal or of its warnings.
use Rattle.std.specs.Prelude.{ℕ, suc, ◌≡◌, refl, List, [], ◌∷◌, ◌++◌, map, length}
use Rattle.slices.specs.Bytes.{bytes}
use Rattle.utf8.specs.WellFormed.{sequence, ill_formed}
use Rattle.utf8.specs.Encoding.{utf8}
use Rattle.answers.specs.Text.{Text, text}
use Rattle.scan.specs.Ignorable.{ignorable}
use Rattle.references.specs.Characters.{xml_char}
use Rattle.references.specs.Unescape.{reference, piece, unescape}
use Rattle.document.specs.Tags.{attribute, gather, Shown}
use Rattle.document.specs.Tokens.{opening, closing, next, tokens}
use Rattle.document.specs.Rows.{Warning}
use Rattle.document.specs.Refusals.{fault_in}
use Rattle.document.specs.Elements.{kind_of, may_hold, opens_as}
use Rattle.document.specs.Reading.{State, begun, reading, accepted, refused, begins, unsupported, docstring_in, step, run}
use Rattle.document.specs.Whole.{meaning}
use Rattle.messages.specs.Message.{is_shown, excerpt_of, message_of, warning_message_of}
use Rattle.refusals.specs.Told.{told_of}

abbrev pub messages_of : List ℕ → State Shown → List Text
messages_of doc begun = []
messages_of doc (reading fs t) = []
messages_of doc (accepted t) = map (λ (w : Warning). warning_message_of doc w.reason (suc w.at) (length w.name) 128) t.warnings
messages_of doc (refused x) = message_of doc (told_of x) 128 ∷ []

-- a name and a reference with a character of two bytes are among them
abbrev pub cases : List (List ℕ × List Text)
cases =
    (bytes "", text (bytes "missing root element") ∷ [])
    ∷ (bytes "<node>", text (bytes "missing `</node>`") ∷ [])
    ∷ (bytes "<a></" ++ (195 ∷ 169 ∷ bytes ">"), text (bytes "unexpected `</" ++ (195 ∷ 169 ∷ bytes ">` while parsing `<a>`")) ∷ [])
    ∷ (bytes "<a b='1' b='2'/>", text (bytes "duplicate attribute `b`") ∷ [])
    ∷ (bytes "<a b='&" ++ (195 ∷ 169 ∷ bytes ";'/>"), text (bytes "unknown entity `&" ++ (195 ∷ 169 ∷ bytes ";`")) ∷ [])
    ∷ (bytes "<a b='&#0;'/>", text (bytes "invalid character reference `&#0;`") ∷ [])
    ∷ (bytes "<a><interface/></a>", text (bytes "missing attribute `name` on `<interface>`") ∷ [])
    ∷ (bytes "<a><x/><enum/></a>", text (bytes "unsupported element `<x>` ignored") ∷ text (bytes "malformed element `<enum>` ignored: missing attribute `name`") ∷ [])
    ∷ []

pub worked : map (λ (c : List ℕ × List Text). messages_of c.0 (meaning c.0)) cases ≡ map (λ (c : List ℕ × List Text). c.1) cases
unfolding meaning fault_in ill_formed sequence run step begins unsupported docstring_in opens_as kind_of may_hold tokens next opening closing gather attribute unescape piece reference xml_char utf8 ignorable message_of warning_message_of excerpt_of is_shown
worked = refl
