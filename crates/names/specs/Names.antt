-- Names, by the D-Bus Specification, Message Protocol, Valid Names.
use Rattle.std.specs.Prelude.{ℕ, List, [], ◌∷◌, Bool, true, false, not, ◌&&◌, ◌||◌, eqb, leb, length}
use Rattle.slices.specs.Bytes.{if, digit, all, empty}

-- [A-Z][a-z][0-9]_
abbrev pub element_byte : ℕ → Bool
element_byte b = (leb 65 b && leb b 90) || (leb 97 b && leb b 122) || digit b || eqb b 95

-- one or more of these bytes, the first no digit
abbrev pub element : List ℕ → Bool
element [] = false
element (b ∷ l) = not (digit b) && all element_byte (b ∷ l)

abbrev pub grown : ℕ → List (List ℕ) → List (List ℕ)
grown b [] = (b ∷ []) ∷ []
grown b (e ∷ es) = (b ∷ e) ∷ es

-- the elements of a name, which dots (46) separate
abbrev pub elements : List ℕ → List (List ℕ)
elements [] = [] ∷ []
elements (b ∷ l) = let es = elements l in if (eqb b 46) ([] ∷ es) (grown b es)

abbrev pub every : (List ℕ → Bool) → List (List ℕ) → Bool
every p [] = true
every p (e ∷ es) = let t = every p es in if (p e) t false

-- two or more elements; at most 255 bytes
unfoldable pub interface_name : List ℕ → Bool
interface_name s = every element (elements s) && leb 2 (length (elements s)) && leb (length s) 255

-- one element, no dot; at most 255 bytes
unfoldable pub member_name : List ℕ → Bool
member_name s = element s && leb (length s) 255

-- 1 to 255 bytes
abbrev pub property_name : List ℕ → Bool
property_name s = not (empty s) && leb (length s) 255
