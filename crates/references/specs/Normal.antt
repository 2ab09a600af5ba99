-- Attribute values in the words of XML 1.0: 2.11 over the whole value, then 3.3.3 over what comes out; and the theorem that
-- unescaping is this. References are as docs/FORMAT.md takes them.
use Rattle.std.specs.Prelude.{ℕ, zero, suc, ◌≡◌, List, [], ◌∷◌, ◌++◌, Bool, false, ◌||◌, eqb, length}
use Rattle.slices.specs.Bytes.{if, bytes, other, span, past, empty, same}
use Rattle.answers.specs.Text.{Text, text, wrong}
use Rattle.references.specs.Unescape.{Reference, character, fault, char_reference, Piece, shows, bad, referred, unescape}

abbrev pub leads : ℕ → List ℕ → Bool
leads k [] = false
leads k (b ∷ l) = eqb b k

-- ---- 2.11

-- "translating both the two-character sequence #xD #xA and any #xD that is not followed by #xA to a single #xA character"
abbrev pub line_ends : List ℕ → List ℕ
line_ends [] = []
line_ends (b ∷ l) = let r = line_ends l in if (eqb b 13) (if (leads 10 l) r (10 ∷ r)) (b ∷ r)

-- ---- 3.3.3, step 3

-- an entity reference: step 3 is applied to the replacement text, which for each of the five of 4.6 comes to its one character
abbrev pub entity : List ℕ → Reference
entity e =
    if (same e (bytes "amp")) (character 38)
    (if (same e (bytes "lt")) (character 60)
    (if (same e (bytes "gt")) (character 62)
    (if (same e (bytes "quot")) (character 34)
    (if (same e (bytes "apos")) (character 39) (fault 10)))))

-- a character reference or an entity reference, by what stands between `&` and `;`
abbrev pub named : List ℕ → Reference
named e = let c = char_reference e in if (leads 35 e) c (entity e)

-- after `&`, up to the first `;`: "append the referenced character"
abbrev pub refers : List ℕ → Piece
refers l =
    let n = span (other 59) l in
    let r = referred (named n) (suc (length n)) in
    if (empty (past (other 59) l)) (bad 9) r

-- "a white space character (#x20, #xD, #xA, #x9)"
abbrev pub white_space : ℕ → Bool
white_space b = eqb b 32 || eqb b 13 || eqb b 10 || eqb b 9

-- a reference; white space: "append a space character (#x20)"; another character: "append the character"
unfoldable pub normal : ℕ → List ℕ → Piece
normal b l =
    let r = refers l in
    if (eqb b 38) r (if (white_space b) (shows (32 ∷ []) 0) (shows (b ∷ []) 0))

-- the normalised value, or the number of a refusal
pub data Value : Type 0 where
  value : List ℕ → Value
  refused : ℕ → Value

abbrev pub after : List ℕ → Value → Value
after s (value t) = value (s ++ t)
after s (refused n) = refused n

abbrev pub continued : Piece → (ℕ → Value) → Value
continued (shows s w) k = after s (k w)
continued (bad n) k = refused n

-- "beginning with the first and continuing to the last", when so many bytes are taken already
abbrev pub normal_from : ℕ → List ℕ → Value
normal_from k [] = value []
normal_from zero (b ∷ l) = continued (normal b l) (λ w. normal_from w l)
normal_from (suc k) (b ∷ l) = normal_from k l

unfoldable pub normalised : List ℕ → Value
normalised v = normal_from 0 (line_ends v)

-- ---- the theorem

-- a definition's outcome without the place
abbrev pub outcome : Text → Value
outcome (text t) = value t
outcome (wrong n p) = refused n

-- for every value, the text that it shows, or the number of its refusal, is that of 2.11 and 3.3.3. Places are not compared: 2.11 takes
-- bytes away, so that CR LF `&q;` is refused with 10 at place 2 of the value, and at place 1 of what 2.11 leaves.
abbrev pub FollowsRecommendation : Type 0
FollowsRecommendation = (v : List ℕ) → outcome (unescape v) ≡ normalised v
