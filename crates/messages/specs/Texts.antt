-- The texts of messages (docs/FORMAT.md, Messages): a line for each message of xml.rs and lib.rs of zbus_xml 6.0.0, and for each number
-- whose text is not there a word for what is wrong.
use Rattle.std.specs.Prelude.{ℕ, List, [], ◌∷◌, eqb}
use Rattle.slices.specs.Bytes.{if, bytes}

-- what a message is made of: words; the first or the second excerpt as it stands; the first one unescaped; the key
pub data Piece : Type 0 where
  words : List ℕ → Piece
  first second value key : Piece

-- an entry of a table of texts
pub record Entry : Type 0 where
  pub number : ℕ
  pub pieces : List Piece

abbrev pub says : ℕ → List Piece → Entry
says n ps = record { number = n; pieces = ps }

abbrev pub plainly : ℕ → List ℕ → Entry
plainly n s = says n (words s ∷ [])

-- the pieces of a number; none if it has no text
abbrev pub pieces_of : List Entry → ℕ → List Piece
pieces_of [] n = []
pieces_of (e ∷ es) n = let r = pieces_of es n in if (eqb n e.number) e.pieces r

-- refusals
abbrev pub refusals : List Entry
refusals =
    plainly 1 (bytes "not UTF-8")
    ∷ plainly 2 (bytes "over-long")
    ∷ plainly 3 (bytes "missing root element")
    ∷ plainly 4 (bytes "malformed markup")
    ∷ says 5 (words (bytes "missing `</") ∷ first ∷ words (bytes ">`") ∷ [])
    ∷ says 6 (words (bytes "unexpected `</") ∷ first ∷ words (bytes ">` while parsing `<") ∷ second ∷ words (bytes ">`") ∷ [])
    ∷ plainly 7 (bytes "maximum element nesting depth exceeded")
    ∷ says 8 (words (bytes "duplicate attribute `") ∷ first ∷ words (bytes "`") ∷ [])
    ∷ plainly 9 (bytes "unterminated entity reference")
    ∷ says 10 (words (bytes "unknown entity `") ∷ first ∷ words (bytes "`") ∷ [])
    ∷ says 11 (words (bytes "invalid character reference `") ∷ first ∷ words (bytes "`") ∷ [])
    ∷ says 12 (words (bytes "missing attribute `") ∷ key ∷ words (bytes "` on `<") ∷ first ∷ words (bytes ">`") ∷ [])
    ∷ plainly 13 (bytes "bad name")
    ∷ plainly 14 (bytes "bad signature")
    ∷ says 15 (words (bytes "invalid property access `") ∷ value ∷ words (bytes "`") ∷ [])
    ∷ says 16 (words (bytes "invalid argument direction `") ∷ value ∷ words (bytes "`") ∷ [])
    ∷ plainly 17 (bytes "too many attributes")
    ∷ plainly 18 (bytes "no room in a lent table")
    ∷ plainly 19 (bytes "unsound rows")
    ∷ plainly 20 (bytes "not writable")
    ∷ plainly 21 (bytes "output short")
    ∷ plainly 22 (bytes "malformed markup")
    ∷ plainly 23 (bytes "malformed markup")
    ∷ plainly 24 (bytes "malformed markup")
    ∷ plainly 25 (bytes "malformed markup")
    ∷ plainly 26 (bytes "odd number of bytes")
    ∷ plainly 27 (bytes "lone surrogate")
    ∷ plainly 28 (bytes "circular types")
    ∷ plainly 29 (bytes "profile breach")
    ∷ plainly 30 (bytes "too many rows")
    ∷ []

-- the attribute of a key; none if the key is unknown
abbrev pub key_name : ℕ → List ℕ
key_name k =
    if (eqb k 1) (bytes "name")
    (if (eqb k 2) (bytes "type")
    (if (eqb k 3) (bytes "access")
    (if (eqb k 4) (bytes "value") [])))

-- warnings, by their reason; the first excerpt is the element's name
abbrev pub malformed : ℕ → List ℕ → Entry
malformed n why = says n (words (bytes "malformed element `<") ∷ first ∷ words (bytes ">` ignored: ") ∷ words why ∷ [])

abbrev pub warnings : List Entry
warnings =
    says 1 (words (bytes "unsupported element `<") ∷ first ∷ words (bytes ">` ignored") ∷ [])
    ∷ malformed 2 (bytes "missing attribute `name`")
    ∷ malformed 3 (bytes "missing attribute `type`")
    ∷ malformed 4 (bytes "invalid signature in `type`")
    ∷ malformed 5 (bytes "an enumvalue is missing its `suffix` or `value` attribute")
    ∷ malformed 6 (bytes "a member is missing its `name` or `type` attribute, or has an invalid signature")
    ∷ malformed 7 (bytes "no members")
    ∷ malformed 8 (bytes "expected exactly 2 members")
    ∷ malformed 9 (bytes "the key is not a basic type")
    ∷ []
