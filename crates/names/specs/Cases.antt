-- Worked examples, most of the D-Bus Specification: texts, and whether each is a signature.
use Rattle.std.specs.Prelude.{ℕ, ◌≡◌, refl, List, [], ◌∷◌, ◌++◌, map, Bool, true, false, replicate}
use Prim.Native.String as string
use Rattle.slices.specs.Bytes.{bytes}
use Rattle.names.specs.Names.{interface_name, member_name, property_name}
use Rattle.names.specs.Signature.{signature, basic_signature}

abbrev pub good : List string.String
good = "ii" ∷ "aiai" ∷ "(i(ii))" ∷ "a(ii)" ∷ "a{sv}" ∷ "as" ∷ "aa{ss}" ∷ "" ∷ "v" ∷ "(av)a{oa{sv}}" ∷ []

abbrev pub bad : List string.String
bad = "aa" ∷ "(ii" ∷ "ii)" ∷ "()" ∷ "a" ∷ "{sv}" ∷ "a{vs}" ∷ "a{s}" ∷ "a{sss}" ∷ "a{sv" ∷ "r" ∷ "e" ∷ "a{}" ∷ "i i" ∷ []

-- n arrays of arrays of integers, and n structs in each other
abbrev pub nested : ℕ → List ℕ
nested n = replicate n 97 ++ 105 ∷ []

abbrev pub enclosed : ℕ → List ℕ
enclosed n = replicate n 40 ++ 105 ∷ replicate n 41

pub signatures : (map (λ t. signature (bytes t)) good ≡ map (λ t. true) good)
    × (map (λ t. signature (bytes t)) bad ≡ map (λ t. false) bad)
    × (map signature (nested 32 ∷ nested 33 ∷ enclosed 32 ∷ enclosed 33 ∷ []) ≡ true ∷ false ∷ true ∷ false ∷ [])
    × (map signature (replicate 255 121 ∷ replicate 256 121 ∷ []) ≡ true ∷ false ∷ [])
unfolding signature
signatures = (refl, refl, refl, refl)

-- whether a text is an interface's name, a member's, a property's, and a signature of one basic type
abbrev pub kinds : List ℕ → List Bool
kinds s = interface_name s ∷ member_name s ∷ property_name s ∷ basic_signature s ∷ []

abbrev pub names : List (string.String × List Bool)
names =
    ("org.freedesktop.DBus", true ∷ false ∷ true ∷ false ∷ [])
    ∷ ("a._1", true ∷ false ∷ true ∷ false ∷ [])
    ∷ ("GetAll", false ∷ true ∷ true ∷ false ∷ [])
    ∷ ("_0", false ∷ true ∷ true ∷ false ∷ [])
    ∷ ("s", false ∷ true ∷ true ∷ true ∷ [])
    ∷ ("", false ∷ false ∷ false ∷ false ∷ [])
    ∷ ("a.1b", false ∷ false ∷ true ∷ false ∷ [])
    ∷ ("a..b", false ∷ false ∷ true ∷ false ∷ [])
    ∷ (".a.b", false ∷ false ∷ true ∷ false ∷ [])
    ∷ ("a.b.", false ∷ false ∷ true ∷ false ∷ [])
    ∷ ("0a", false ∷ false ∷ true ∷ false ∷ [])
    ∷ ("a-b", false ∷ false ∷ true ∷ false ∷ [])
    ∷ []

pub worked : map (λ c. kinds (bytes c.0)) names ≡ map (λ c. c.1) names
unfolding interface_name member_name
worked = refl
