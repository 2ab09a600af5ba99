-- Three classes of bytes, and the number that carries them.
use Rattle.std.specs.Prelude.{ℕ, ◌+◌, ◌<◌, ◌≡◌, List, Bool, not, ◌&&◌, ◌||◌, eqb, get_or}
use Rattle.slices.specs.Bytes.{if, other}

-- space, tab, LF, FF, CR
abbrev pub white : ℕ → Bool
white b = eqb b 32 || eqb b 9 || eqb b 10 || eqb b 12 || eqb b 13

-- any byte but white space, `=`, `/`, `<` and `>`
abbrev pub name_byte : ℕ → Bool
name_byte b = not (white b || eqb b 61 || eqb b 47 || eqb b 60 || eqb b 62)

-- a name's byte other than the colon (58), as in an NCName of Namespaces in XML
abbrev pub nc_name_byte : ℕ → Bool
nc_name_byte b = name_byte b && other 58 b

-- `&`, `<`, `>`, `"`, `'`, tab, LF, CR: what escaping turns into a reference
abbrev pub escapable : ℕ → Bool
escapable b = eqb b 38 || eqb b 60 || eqb b 62 || eqb b 34 || eqb b 39 || eqb b 9 || eqb b 10 || eqb b 13

-- 1 for white space, 2 for a name's byte other than the colon, 4 for what is escaped, added up
abbrev pub class_of : ℕ → ℕ
class_of b = if (white b) 1 0 + if (nc_name_byte b) 2 0 + if (escapable b) 4 0

-- a table of the classes of all bytes
pub record Classes (t : List ℕ) : Type 0 where
  pub rule : (b : ℕ) → b < 256 → get_or t b 0 ≡ class_of b
