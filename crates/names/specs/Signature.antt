-- Signatures, as a test that computes: a stack of what is open, and a step for each byte.
-- proofs/Grammar.antt proves that it says what specs/Types.antt says.
use Rattle.std.specs.Prelude.{ℕ, suc, List, [], ◌∷◌, Bool, true, false, not, ◌&&◌, ◌||◌, eqb, ltb, leb, length}
use Rattle.slices.specs.Bytes.{if, empty}

-- what is open: an array before its element; in its dict entry before the key, before the value, before the closing brace;
-- a struct before its first field, and after a field
pub data Open : Type 0 where
  element key value brace first fields : Open

abbrev pub is_array : Open → Bool
is_array element = true
is_array key = true
is_array value = true
is_array brace = true
is_array first = false
is_array fields = false

abbrev pub count : (Open → Bool) → List Open → ℕ
count p [] = 0
count p (o ∷ os) = let n = count p os in if (p o) (suc n) n

-- y b n q i u x t d h s o g
abbrev pub basic_code : ℕ → Bool
basic_code b =
    eqb b 121 || eqb b 98 || eqb b 110 || eqb b 113 || eqb b 105 || eqb b 117 || eqb b 120 || eqb b 116 || eqb b 100 || eqb b 104
    || eqb b 115 || eqb b 111 || eqb b 103

-- still good, with this open; or no signature
pub data State : Type 0 where
  good : List Open → State
  bad : State

-- a complete type ended: so did each array whose element it was
abbrev pub ended : List Open → List Open
ended [] = []
ended (element ∷ os) = ended os
ended (key ∷ os) = key ∷ os
ended (value ∷ os) = brace ∷ os
ended (brace ∷ os) = brace ∷ os
ended (first ∷ os) = fields ∷ os
ended (fields ∷ os) = fields ∷ os

-- a byte with which a complete type begins
abbrev pub begins : List Open → ℕ → State
begins os b =
    let a = if (ltb (count is_array os) 32) (good (element ∷ os)) bad in
    let p = if (ltb (count (λ o. not (is_array o)) os) 32) (good (first ∷ os)) bad in
    if (basic_code b || eqb b 118) (good (ended os)) (if (eqb b 97) a (if (eqb b 40) p bad))

abbrev pub byte : List Open → ℕ → State
byte [] b = begins [] b
byte (element ∷ os) b = let r = begins (element ∷ os) b in if (eqb b 123) (good (key ∷ os)) r
byte (key ∷ os) b = if (basic_code b) (good (value ∷ os)) bad
byte (value ∷ os) b = begins (value ∷ os) b
byte (brace ∷ os) b = if (eqb b 125) (good (ended os)) bad
byte (first ∷ os) b = begins (first ∷ os) b
byte (fields ∷ os) b = let r = begins (fields ∷ os) b in if (eqb b 41) (good (ended os)) r

abbrev pub step : State → ℕ → State
step (good os) b = byte os b
step bad b = bad

abbrev pub nothing_open : State → Bool
nothing_open (good os) = empty os
nothing_open bad = false

-- from a state on: nothing is open after the last byte
abbrev pub accepts : List ℕ → State → Bool
accepts [] s = nothing_open s
accepts (b ∷ l) s = accepts l (step s b)

unfoldable pub signature : List ℕ → Bool
signature s = accepts s (good []) && leb (length s) 255

-- a signature of one basic type
abbrev pub basic_signature : List ℕ → Bool
basic_signature [] = false
basic_signature (b ∷ l) = basic_code b && empty l
