-- What reading meets: the tokens that it comes to, and the comments on the way to each. Reading ends with the root's end, and
-- with the first fault.
use Rattle.std.specs.Prelude.{ℕ, List, [], ◌∷◌, ◌++◌, Bool, true, false, drop}
use Rattle.slices.specs.Bytes.{if}
use Rattle.document.specs.Tags.{Shown}
use Rattle.document.specs.Tokens.{Tag, Token, start, close, fault, end, tokens}
use Rattle.document.specs.Reading.{State, begun, reading, accepted, refused, step}
use Rattle.document.specs.Outcome.{whole}
use Rattle.met.specs.Passed.{passed_over}

abbrev pub goes_on : State Shown → Bool
goes_on begun = true
goes_on (reading fs u) = true
goes_on (accepted u) = false
goes_on (refused x) = false

-- of some tokens, those that reading comes to from a state on
abbrev pub reached : List ℕ → State Shown → List Token → List Token
reached doc s [] = []
reached doc s (t ∷ ts) = let r = t ∷ reached doc (step whole doc s t) ts in if (goes_on s) r []

unfoldable pub met_tokens : List ℕ → List Token
met_tokens doc = reached doc begun (tokens doc 0)

-- the start tags among tokens
abbrev pub start_tags : List Token → List Tag
start_tags [] = []
start_tags (start t ∷ ts) = t ∷ start_tags ts
start_tags (close lt n q ∷ ts) = start_tags ts
start_tags (fault n p ∷ ts) = start_tags ts
start_tags (end p ∷ ts) = start_tags ts

-- the place after a token
abbrev pub place_after : Token → ℕ
place_after (start t) = t.after
place_after (close lt n q) = q
place_after (fault n p) = p
place_after (end p) = p

-- the comments on the way to each of some tokens, of which the first is looked for from a place on
abbrev pub comments_to : List ℕ → ℕ → List Token → List ℕ
comments_to doc at [] = []
comments_to doc at (t ∷ ts) = passed_over (drop at doc) at ++ comments_to doc (place_after t) ts

-- the place after the last of them
abbrev pub end_of : ℕ → List Token → ℕ
end_of at [] = at
end_of at (t ∷ ts) = end_of (place_after t) ts

-- the start tags that reading comes to
abbrev pub met_tags : List ℕ → List Tag
met_tags doc = start_tags (met_tokens doc)

-- the places of the comments that it passes over
abbrev pub met_comments : List ℕ → List ℕ
met_comments doc = comments_to doc 0 (met_tokens doc)

-- the place after the root, of a document that is accepted
abbrev pub root_end : List ℕ → ℕ
root_end doc = end_of 0 (met_tokens doc)
