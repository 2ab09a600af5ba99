-- What a raw attribute value shows: XML 1.0, sections 2.11 (line ends), 3.3.3 (normalisation) and 4.1 (references), with
-- references as docs/FORMAT.md takes them: `#X` as `#x`, any number of leading zeros, five entities and no others.
use Rattle.std.specs.Prelude.{ℕ, zero, suc, ◌+◌, ◌-◌, ◌*◌, List, [], ◌∷◌, ◌++◌, Bool, not, ◌&&◌, ◌||◌, eqb, leb, length}
use Rattle.slices.specs.Bytes.{if, bytes, other, digit, span, past, all, empty, same}
use Rattle.utf8.specs.Encoding.{utf8}
use Rattle.answers.specs.Text.{Text, text, wrong}
use Rattle.references.specs.Characters.{xml_char}

-- [0-9a-fA-F], and the value of a digit
abbrev pub hex_digit : ℕ → Bool
hex_digit b = digit b || (leb 65 b && leb b 70) || (leb 97 b && leb b 102)

abbrev pub digit_value : ℕ → ℕ
digit_value b = if (leb b 57) (b - 48) (if (leb b 70) (b - 55) (b - 87))

-- the number that digits write, after the digits of n
abbrev pub number : ℕ → ℕ → List ℕ → ℕ
number base n [] = n
number base n (b ∷ l) = number base (n * base + digit_value b) l

-- a reference: to a character, by its code, or a fault's number
pub data Reference : Type 0 where
  character : ℕ → Reference
  fault : ℕ → Reference

abbrev pub of_code : ℕ → Reference
of_code n = if (xml_char n) (character n) (fault 11)

abbrev pub of_digits : ℕ → (ℕ → Bool) → List ℕ → Reference
of_digits base p ds = let r = of_code (number base 0 ds) in if (not (empty ds) && all p ds) r (fault 11)

-- CharRef, after `&#`: '&#' [0-9]+ ';' | '&#x' [0-9a-fA-F]+ ';'
abbrev pub of_number : List ℕ → Reference
of_number [] = fault 11
of_number (b ∷ l) =
    let hex = of_digits 16 hex_digit l in
    let dec = of_digits 10 digit (b ∷ l) in
    if (eqb b 120 || eqb b 88) hex dec

abbrev pub char_reference : List ℕ → Reference
char_reference [] = fault 10
char_reference (b ∷ l) = let r = of_number l in if (eqb b 35) r (fault 10)

-- what stands between `&` and `;`
unfoldable pub reference : List ℕ → Reference
reference e =
    let r = char_reference e in
    if (same e (bytes "amp")) (character 38)
    (if (same e (bytes "lt")) (character 60)
    (if (same e (bytes "gt")) (character 62)
    (if (same e (bytes "quot")) (character 34)
    (if (same e (bytes "apos")) (character 39) r))))

-- what a byte of a value and those after it show, and how many of those after it they take; or a fault's number
pub data Piece : Type 0 where
  shows : List ℕ → ℕ → Piece
  bad : ℕ → Piece

-- a reference is not normalised: the character itself is shown
abbrev pub referred : Reference → ℕ → Piece
referred (character n) w = shows (utf8 n) w
referred (fault n) w = bad n

-- after `&`: all up to the first `;` is the reference
abbrev pub after_ampersand : List ℕ → Piece
after_ampersand l =
    let n = span (other 59) l in
    let r = referred (reference n) (suc (length n)) in
    if (empty (past (other 59) l)) (bad 9) r

-- 2.11: CR LF is one line end, and so is a CR alone; 3.3.3: a line end or a tab shows a space
abbrev pub after_cr : List ℕ → Piece
after_cr [] = shows (32 ∷ []) 0
after_cr (b ∷ l) = if (eqb b 10) (shows (32 ∷ []) 1) (shows (32 ∷ []) 0)

unfoldable pub piece : ℕ → List ℕ → Piece
piece b l =
    let r = after_ampersand l in
    let c = after_cr l in
    if (eqb b 38) r (if (eqb b 13) c (if (eqb b 10 || eqb b 9) (shows (32 ∷ []) 0) (shows (b ∷ []) 0)))

-- the text that a value shows, or a fault's number and its place in the value
abbrev pub before : List ℕ → Text → Text
before s (text t) = text (s ++ t)
before s (wrong n p) = wrong n p

abbrev pub joined : Piece → ℕ → (ℕ → Text) → Text
joined (shows s w) at k = before s (k w)
joined (bad n) at k = wrong n at

-- of what is left of a value from a place on, when so many bytes are taken already
abbrev pub shown_from : ℕ → List ℕ → ℕ → Text
shown_from k [] at = text []
shown_from zero (b ∷ l) at = joined (piece b l) at (λ w. shown_from w l (suc at))
shown_from (suc k) (b ∷ l) at = shown_from k l (suc at)

unfoldable pub unescape : List ℕ → Text
unescape v = shown_from 0 v 0

-- a byte that a value does not show as it is: `&`, tab, LF, CR
abbrev pub special : ℕ → Bool
special b = eqb b 38 || eqb b 9 || eqb b 10 || eqb b 13

abbrev pub plain : ℕ → Bool
plain b = not (special b)
