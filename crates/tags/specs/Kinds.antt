-- The kind of a name by a list of names.
use Rattle.std.specs.Prelude.{ℕ, List, [], ◌∷◌}
use Rattle.slices.specs.Bytes.{if, bytes, same}
use Rattle.document.specs.Kinds as kinds

-- the number beside the name in a list, or d
abbrev pub numbered : List (List ℕ × ℕ) → ℕ → List ℕ → ℕ
numbered [] d n = d
numbered (k ∷ ks) d n = let r = numbered ks d n in if (same n k.0) k.1 r

-- the names that are taken whole
abbrev pub exact_kinds : List (List ℕ × ℕ)
exact_kinds =
    (bytes "node", kinds.node)
    ∷ (bytes "interface", kinds.interface)
    ∷ (bytes "method", kinds.method)
    ∷ (bytes "property", kinds.property)
    ∷ (bytes "signal", kinds.signal)
    ∷ (bytes "annotation", kinds.annotation)
    ∷ (bytes "arg", kinds.arg)
    ∷ []

-- the local names
abbrev pub local_kinds : List (List ℕ × ℕ)
local_kinds =
    (bytes "simple-type", kinds.simple_type)
    ∷ (bytes "enum", kinds.enum)
    ∷ (bytes "enumvalue", kinds.enumvalue)
    ∷ (bytes "struct", kinds.struct)
    ∷ (bytes "member", kinds.member)
    ∷ (bytes "mapping", kinds.mapping)
    ∷ (bytes "docstring", kinds.docstring)
    ∷ []

-- by exact name, and by local name; 0 is any other
unfoldable pub exact_kind : List ℕ → ℕ
exact_kind n = numbered exact_kinds 0 n

unfoldable pub local_kind : List ℕ → ℕ
local_kind n = numbered local_kinds 0 n
