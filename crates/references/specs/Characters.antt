-- Characters: XML 1.0, section 2.2.
use Rattle.std.specs.Prelude.{ℕ, Bool, ◌&&◌, ◌||◌, eqb, leb}

-- Char ::= #x9 | #xA | #xD | [#x20-#xD7FF] | [#xE000-#xFFFD] | [#x10000-#x10FFFF]
unfoldable pub xml_char : ℕ → Bool
xml_char n =
    eqb n 0x9 || eqb n 0xa || eqb n 0xd || (leb 0x20 n && leb n 0xd7ff) || (leb 0xe000 n && leb n 0xfffd)
    || (leb 0x10000 n && leb n 0x10ffff)
