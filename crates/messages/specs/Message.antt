-- The message of a refusal or a warning, with its document (docs/FORMAT.md, Messages): the bytes, or a refusal by 2, 19 at 0 or 21.
use Rattle.std.specs.Prelude.{ℕ, ◌+◌, List, [], ◌∷◌, ◌++◌, Bool, not, ◌&&◌, eqb, leb, ltb, length, take, drop}
use Rattle.slices.specs.Bytes.{if, empty}
use Rattle.utf8.specs.WellFormed.{well_formed}
use Rattle.answers.specs.Text.{Text, text, wrong, roomy}
use Rattle.references.specs.Unescape.{unescape}
use Rattle.messages.specs.Texts.{Piece, words, first, second, value, key, pieces_of, refusals, warnings, key_name}
use Rattle.tables.specs.declared.Triple.{Triple}
use Rattle.messages.specs.declared.Wide.{Wide}
use Rattle.messages.specs.declared.Told.{Told}

-- a triple of 32-bit words as one of whatever words
abbrev pub widened : Triple → Wide
widened t = record { source = t.source; start = t.start; len = t.len }

abbrev pub unsound : Text
unsound = wrong 19 0

-- bytes that have to be there
abbrev pub present : List ℕ → Text
present s = if (empty s) unsound (text s)

-- what a triple shows: source 1, inside the document, UTF-8
abbrev pub excerpt : List ℕ → Wide → List ℕ
excerpt doc t = take t.len (drop t.start doc)

unfoldable pub is_shown : List ℕ → Wide → Bool
is_shown doc t = eqb t.source 1 && leb (t.start + t.len) (length doc) && well_formed (excerpt doc t)

unfoldable pub excerpt_of : List ℕ → Wide → Text
excerpt_of doc t = if (is_shown doc t) (text (excerpt doc t)) unsound

-- and unescaped
abbrev pub or_unsound : Text → Text
or_unsound (text s) = text s
or_unsound (wrong n p) = unsound

abbrev pub unescaped_of : Text → Text
unescaped_of (text s) = or_unsound (unescape s)
unescaped_of (wrong n p) = unsound

abbrev pub piece_of : List ℕ → Told → Piece → Text
piece_of doc x (words s) = text s
piece_of doc x first = excerpt_of doc x.first
piece_of doc x second = excerpt_of doc x.second
piece_of doc x value = unescaped_of (excerpt_of doc x.first)
piece_of doc x key = present (key_name x.key)

abbrev pub joined : Text → Text → Text
joined (text s) (text t) = text (s ++ t)
joined (text s) (wrong n p) = wrong n p
joined (wrong n p) t = wrong n p

-- words before what is shown and after it
unfoldable pub framed : List ℕ → Text → List ℕ → Text
framed before shown after = joined (text before) (joined shown (text after))

abbrev pub composed : List ℕ → Told → List Piece → Text
composed doc x [] = text []
composed doc x (p ∷ ps) = joined (piece_of doc x p) (composed doc x ps)

-- a number or reason without a text is unknown
abbrev pub known : List Piece → Text → Text
known [] t = unsound
known (p ∷ ps) t = t

abbrev pub message_by : List ℕ → Told → List Piece → Text
message_by doc x ps = known ps (composed doc x ps)

-- order: 2, unless the number told is 2; 19 at 0; 21 at the bytes needed
unfoldable pub message_of : List ℕ → Told → ℕ → Text
message_of doc x room =
    let r = roomy room (message_by doc x (pieces_of refusals x.number)) in
    if (ltb 1048576 (length doc) && not (eqb x.number 2)) (wrong 2 1048576) r

-- of a warning: reason, place (not looked at), the element's name in the document
abbrev pub warned : ℕ → ℕ → ℕ → Told
warned reason start len = record {
  number = reason;
  key = 0;
  first = record { source = 1; start = start; len = len };
  second = record { source = 0; start = 0; len = 0 };
}

unfoldable pub warning_message_of : List ℕ → ℕ → ℕ → ℕ → ℕ → Text
warning_message_of doc reason start len room =
    let r = roomy room (message_by doc (warned reason start len) (pieces_of warnings reason)) in
    if (ltb 1048576 (length doc)) (wrong 2 1048576) r
