-- Worked messages: every number, key and reason once, and words of whatever content.
use Rattle.std.specs.Prelude.{ℕ, ◌≡◌, refl, List, [], ◌∷◌, ◌++◌, map}
use Rattle.slices.specs.Bytes.{bytes}
use Rattle.utf8.specs.WellFormed.{ill_formed, sequence}
use Rattle.utf8.specs.Encoding.{utf8}
use Rattle.answers.specs.Text.{Text, text, wrong}
use Rattle.references.specs.Characters.{xml_char}
use Rattle.references.specs.Unescape.{unescape, piece, reference}
use Rattle.messages.specs.Message.{is_shown, excerpt_of, message_of, warning_message_of}
use Rattle.messages.specs.declared.Wide.{Wide}
use Rattle.messages.specs.declared.Told.{Told}

abbrev pub triple : ℕ → ℕ → ℕ → Wide
triple source start len = record { source = source; start = start; len = len }

abbrev pub none : Wide
none = triple 0 0 0

abbrev pub telling : ℕ → ℕ → Wide → Wide → Told
telling n k a b = record { number = n; key = k; first = a; second = b }

-- a number that shows nothing, whatever is told with it
abbrev pub alone : ℕ → Told
alone n = telling n 7 (triple 9 9 9) (triple 3 0 1)

abbrev pub one : ℕ → Wide → Told
one n a = telling n 0 a none

-- documents: that of the first is the start of `<a></b >`; a character of two bytes; references; line ends
abbrev pub tags : List ℕ
tags = bytes "<a></b >"

abbrev pub accent : List ℕ
accent = bytes "<" ++ (195 ∷ 169 ∷ bytes "/>")

abbrev pub referring : List ℕ
referring = bytes "<a x=\"&q;&#0;& y\"/>"

abbrev pub access : List ℕ
access = bytes "a&#96;" ++ (13 ∷ 10 ∷ bytes "&lt;")

abbrev pub messages : List (List ℕ × Told × ℕ × Text)
messages =
    ([], alone 1, 64, text (bytes "not UTF-8"))
    ∷ ([], alone 2, 64, text (bytes "over-long"))
    ∷ ([], alone 3, 64, text (bytes "missing root element"))
    ∷ ([], alone 4, 64, text (bytes "malformed markup"))
    ∷ (bytes "<node>", one 5 (triple 1 1 4), 64, text (bytes "missing `</node>`"))
    ∷ (tags, telling 6 0 (triple 1 5 1) (triple 1 1 1), 64, text (bytes "unexpected `</b>` while parsing `<a>`"))
    ∷ ([], alone 7, 64, text (bytes "maximum element nesting depth exceeded"))
    ∷ (referring, one 8 (triple 1 13 1), 64, text (bytes "duplicate attribute `&`"))
    ∷ ([], alone 9, 64, text (bytes "unterminated entity reference"))
    ∷ (referring, one 10 (triple 1 6 3), 64, text (bytes "unknown entity `&q;`"))
    ∷ (referring, one 11 (triple 1 9 4), 64, text (bytes "invalid character reference `&#0;`"))
    ∷ (tags, telling 12 1 (triple 1 1 1) none, 64, text (bytes "missing attribute `name` on `<a>`"))
    ∷ (tags, telling 12 2 (triple 1 1 1) none, 64, text (bytes "missing attribute `type` on `<a>`"))
    ∷ (tags, telling 12 3 (triple 1 1 1) none, 64, text (bytes "missing attribute `access` on `<a>`"))
    ∷ (tags, telling 12 4 (triple 1 1 1) none, 64, text (bytes "missing attribute `value` on `<a>`"))
    ∷ ([], alone 13, 64, text (bytes "bad name"))
    ∷ ([], alone 14, 64, text (bytes "bad signature"))
    ∷ (access, one 15 (triple 1 0 12), 64, text (bytes "invalid property access `a` <`"))
    ∷ (bytes "up", one 16 (triple 1 0 2), 64, text (bytes "invalid argument direction `up`"))
    ∷ ([], alone 17, 64, text (bytes "too many attributes"))
    ∷ ([], alone 18, 64, text (bytes "no room in a lent table"))
    ∷ ([], alone 19, 64, text (bytes "unsound rows"))
    ∷ ([], alone 20, 64, text (bytes "not writable"))
    ∷ ([], alone 21, 64, text (bytes "output short"))
    ∷ ([], alone 22, 64, text (bytes "malformed markup"))
    ∷ ([], alone 23, 64, text (bytes "malformed markup"))
    ∷ ([], alone 24, 64, text (bytes "malformed markup"))
    ∷ ([], alone 25, 64, text (bytes "malformed markup"))
    ∷ ([], alone 26, 64, text (bytes "odd number of bytes"))
    ∷ ([], alone 27, 64, text (bytes "lone surrogate"))
    ∷ ([], alone 28, 64, text (bytes "circular types"))
    ∷ ([], alone 29, 64, text (bytes "profile breach"))
    ∷ ([], alone 30, 64, text (bytes "too many rows"))
    ∷ []

-- unknown numbers and keys; triples that are absent, of the text, of no source, past the end, that cut a character, of a length
-- that no word can be added to; a value that cannot be unescaped; at the end of the document nothing is shown; too little room
abbrev pub hostile : List (List ℕ × Told × ℕ × Text)
hostile =
    ([], alone 0, 64, wrong 19 0)
    ∷ ([], alone 31, 64, wrong 19 0)
    ∷ (tags, telling 12 0 (triple 1 1 1) none, 64, wrong 19 0)
    ∷ (tags, telling 12 5 (triple 1 1 1) none, 64, wrong 19 0)
    ∷ (tags, one 5 (triple 0 1 1), 64, wrong 19 0)
    ∷ (tags, one 5 (triple 2 1 1), 64, wrong 19 0)
    ∷ (tags, one 5 (triple 3 1 1), 64, wrong 19 0)
    ∷ (tags, one 5 (triple 1 1 8), 64, wrong 19 0)
    ∷ (tags, one 5 (triple 1 18446744073709551615 1), 64, wrong 19 0)
    ∷ (tags, one 5 (triple 1 1 18446744073709551615), 64, wrong 19 0)
    ∷ (tags, telling 6 0 (triple 1 5 1) none, 64, wrong 19 0)
    ∷ (tags, telling 6 0 none (triple 1 1 1), 64, wrong 19 0)
    ∷ (accent, one 5 (triple 1 1 1), 64, wrong 19 0)
    ∷ (accent, one 5 (triple 1 1 2), 64, text (bytes "missing `</" ++ (195 ∷ 169 ∷ bytes ">`")))
    ∷ (255 ∷ tags, one 5 (triple 1 2 1), 64, text (bytes "missing `</a>`"))
    ∷ (tags, one 5 (triple 1 8 0), 64, text (bytes "missing `</>`"))
    ∷ (tags, one 5 (triple 1 9 0), 64, wrong 19 0)
    ∷ (referring, one 15 (triple 1 6 3), 64, wrong 19 0)
    ∷ (referring, one 16 (triple 1 13 2), 64, wrong 19 0)
    ∷ (tags, one 15 (triple 1 0 0), 64, text (bytes "invalid property access ``"))
    ∷ (bytes "<node>", one 5 (triple 1 1 4), 17, text (bytes "missing `</node>`"))
    ∷ (bytes "<node>", one 5 (triple 1 1 4), 16, wrong 21 17)
    ∷ ([], alone 2, 8, wrong 21 9)
    ∷ []

abbrev pub said_of : List ℕ × Told × ℕ × Text → Text
said_of c = message_of c.0 c.1 c.2

abbrev pub wanted : List ℕ × Told × ℕ × Text → Text
wanted c = c.3

pub messages_say : map said_of messages ≡ map wanted messages
unfolding message_of excerpt_of is_shown unescape piece reference xml_char utf8 ill_formed sequence
messages_say = refl

pub hostile_say : map said_of hostile ≡ map wanted hostile
unfolding message_of excerpt_of is_shown unescape piece reference xml_char utf8 ill_formed sequence
hostile_say = refl

-- reasons, all of the element `x`; then unknown ones, and a name that is outside
abbrev pub reasons : List (ℕ × Text)
reasons =
    (1, text (bytes "unsupported element `<x>` ignored"))
    ∷ (2, text (bytes "malformed element `<x>` ignored: missing attribute `name`"))
    ∷ (3, text (bytes "malformed element `<x>` ignored: missing attribute `type`"))
    ∷ (4, text (bytes "malformed element `<x>` ignored: invalid signature in `type`"))
    ∷ (5, text (bytes "malformed element `<x>` ignored: an enumvalue is missing its `suffix` or `value` attribute"))
    ∷ (6, text (bytes "malformed element `<x>` ignored: a member is missing its `name` or `type` attribute, or has an invalid signature"))
    ∷ (7, text (bytes "malformed element `<x>` ignored: no members"))
    ∷ (8, text (bytes "malformed element `<x>` ignored: expected exactly 2 members"))
    ∷ (9, text (bytes "malformed element `<x>` ignored: the key is not a basic type"))
    ∷ (0, wrong 19 0)
    ∷ (10, wrong 19 0)
    ∷ []

abbrev pub reason_said : ℕ × Text → Text
reason_said c = warning_message_of (255 ∷ bytes "<x/>") c.0 2 1 128

abbrev pub reason_wanted : ℕ × Text → Text
reason_wanted c = c.1

pub reasons_say : map reason_said reasons ≡ map reason_wanted reasons
unfolding warning_message_of excerpt_of is_shown ill_formed sequence
reasons_say = refl

pub warned_outside : warning_message_of (bytes "<x/>") 1 4 1 128 ≡ wrong 19 0
unfolding warning_message_of excerpt_of is_shown ill_formed sequence
warned_outside = refl
