-- Escaping: the five entities of XML 1.0, section 4.6, and references to tab, LF and CR, which section 3.3.3 would normalise.
use Rattle.std.specs.Prelude.{ℕ, List, [], ◌∷◌, ◌++◌, eqb}
use Rattle.slices.specs.Bytes.{if, bytes}

abbrev pub escaped : ℕ → List ℕ
escaped b =
    if (eqb b 38) (bytes "&amp;")
    (if (eqb b 60) (bytes "&lt;")
    (if (eqb b 62) (bytes "&gt;")
    (if (eqb b 34) (bytes "&quot;")
    (if (eqb b 39) (bytes "&apos;")
    (if (eqb b 9) (bytes "&#9;")
    (if (eqb b 10) (bytes "&#10;")
    (if (eqb b 13) (bytes "&#13;") (b ∷ []))))))))

unfoldable pub escape : List ℕ → List ℕ
escape [] = []
escape (b ∷ l) = escaped b ++ escape l
