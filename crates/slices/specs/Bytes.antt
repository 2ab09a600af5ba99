-- Lists of bytes: texts, runs of a class, equal lists and beginnings.
use Rattle.std.specs.Prelude.{ℕ, Bool, true, false, not, ◌&&◌, List, [], ◌∷◌, ◌==◌, leb}
use Prim.Native.Char.{code}
use Prim.Native.String as string

abbrev pub if {ℓ} : {A : Type ℓ} → Bool → A → A → A
if true a b = a
if false a b = b

-- the bytes of an ASCII text
abbrev pub bytes : string.String → List ℕ
bytes string.[] = []
bytes (string.◌∷◌ c s) = code c ∷ bytes s

-- any byte but q
abbrev pub other : ℕ → ℕ → Bool
other q b = not (b == q)

-- [0-9]
abbrev pub digit : ℕ → Bool
digit b = leb 48 b && leb b 57

-- the longest beginning whose bytes are all of a class, and what follows it
abbrev pub span : (ℕ → Bool) → List ℕ → List ℕ
span p [] = []
span p (b ∷ l) = let r = b ∷ span p l in if (p b) r []

abbrev pub past : (ℕ → Bool) → List ℕ → List ℕ
past p [] = []
past p (b ∷ l) = let r = past p l in if (p b) r (b ∷ l)

abbrev pub all : (ℕ → Bool) → List ℕ → Bool
all p [] = true
all p (b ∷ l) = let r = all p l in if (p b) r false

abbrev pub empty {ℓ} : {A : Type ℓ} → List A → Bool
empty [] = true
empty (b ∷ l) = false

-- the two lists are equal
abbrev pub same : List ℕ → List ℕ → Bool
same [] [] = true
same [] (b ∷ l) = false
same (a ∷ k) [] = false
same (a ∷ k) (b ∷ l) = let r = same k l in if (a == b) r false

-- the first list is a beginning of the second
abbrev pub starts : List ℕ → List ℕ → Bool
starts [] l = true
starts (a ∷ k) [] = false
starts (a ∷ k) (b ∷ l) = let r = starts k l in if (a == b) r false
