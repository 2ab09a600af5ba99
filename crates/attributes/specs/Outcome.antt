-- What gathering and checking the attributes of a tag say.
use Rattle.std.specs.Prelude.{ℕ, ◌+◌, ◌≤◌, ◌<◌, ◌≡◌, List, [], ◌∷◌, map, Bool, true, false, not, length, take, drop, get_or, Result, Ok, Err}
use Rattle.slices.specs.Bytes.{if, span, past, same}
use Rattle.scan.specs.Classes.{white}
use Rattle.answers.specs.Text.{text, wrong}
use Rattle.references.specs.Unescape.{unescape}
use Rattle.document.specs.Tags.{Attr, Shown, Checked, good, fault, also, check, gather}
use Rattle.document.specs.Tokens as tokens
use Rattle.document.specs.Tokens.{last, tag_end, with_attrs}
use Rattle.document.specs.Outcome.{ValuesAre, ValuesFit, is_absent}
use Rattle.document.specs.declared.Value.{Value}
use Rattle.attributes.specs.One.{part, attr_of, Fit}
use Rattle.attributes.specs.Lookup.{blank, values_in}
use Rattle.attributes.specs.declared.Attribute.{Attribute}
use Rattle.faults.specs.declared.Fault.{Fault}
use Rattle.attributes.specs.declared.TagValues.{TagValues}

-- the first n of the attributes fit between two places
pub record Fitted (doc : List ℕ) (from to : ℕ) (ys : List Attribute) (n : ℕ) : Type 0 where
  pub rule : (k : ℕ) → k < n → Fit doc from to (get_or ys k blank)

-- what the first n of the attributes stand for
abbrev pub attrs_of : List ℕ → List Attribute → ℕ → List Attr
attrs_of doc ys n = map (attr_of doc) (take n ys)

-- whether one of the attributes has the name
abbrev pub listed : List ℕ → List Attr → Bool
listed n [] = false
listed n (x ∷ xs) = let r = listed n xs in if (same x.name n) true r

-- of the first n, one whose mark is false has a name that none before it has
pub record Fresh (doc : List ℕ) (ys : List Attribute) (n : ℕ) : Type 0 where
  pub rule : (k : ℕ) → k < n → (get_or ys k blank).twin ≡ false → listed (attr_of doc (get_or ys k blank)).name (attrs_of doc ys k) ≡ false

-- how many of the i attributes before one, by its mark, its name is looked for among
abbrev pub among : Bool → ℕ → ℕ
among true i = i
among false i = 0

-- the attributes lie in the document, which is within the limit, and their marks are right
pub record Checkable (doc : List ℕ) (ys : List Attribute) : Type 0 where
  pub small : length doc ≤ 1048576
  pub fitted : Fitted doc 0 (length doc) ys (length ys)
  pub fresh : Fresh doc ys (length ys)

-- the check of the references of one value, whose raw bytes have a place and a length
abbrev pub IsShown : List ℕ → ℕ → ℕ → Result (Unit {0}) Fault → Type 0
IsShown doc at n (Ok u) = (t : List ℕ) × (unescape (part doc at n) ≡ text t)
IsShown doc at n (Err f) = (q : ℕ) × (unescape (part doc at n) ≡ wrong f.number q) × (f.place ≡ at + q)

pub record References (doc : List ℕ) (at n : ℕ) (r : Result (Unit {0}) Fault) : Type 0 where
  pub is : IsShown doc at n r

-- the check of one attribute, whose name came before or not: duplicate before reference
abbrev pub IsJudged : Attr → Bool → Result (Unit {0}) Fault → Type 0
IsJudged x seen (Ok u) = (t : List ℕ) × (seen ≡ false) × (unescape x.raw ≡ text t)
IsJudged x seen (Err f) = (c : Checked) → if seen (fault 8 x.at) (also x (unescape x.raw) c) ≡ fault f.number f.place

-- a value that is there
abbrev pub there : Value → Bool
there v = not (is_absent v)

pub record Weighs (doc : List ℕ) (a : Attribute) (before : Value) (r : Result (Unit {0}) Fault) : Type 0 where
  pub is : IsJudged (attr_of doc a) (there before) r

pub record Judges (doc : List ℕ) (ys : List Attribute) (i : ℕ) (r : Result (Unit {0}) Fault) : Type 0 where
  pub is : IsJudged (attr_of doc (get_or ys i blank)) (listed (attr_of doc (get_or ys i blank)).name (attrs_of doc ys i)) r

-- the check of all
abbrev pub IsChecked : List Attr → Result (Unit {0}) Fault → Type 0
IsChecked xs (Ok u) = (ss : List Shown) × (check [] xs ≡ good ss)
IsChecked xs (Err f) = check [] xs ≡ fault f.number f.place

pub record Checks (doc : List ℕ) (ys : List Attribute) (r : Result (Unit {0}) Fault) : Type 0 where
  pub is : IsChecked (map (attr_of doc) ys) r

-- the check and the values of all, where they end at a place
abbrev pub IsFinished : List ℕ → List Attribute → ℕ → Result TagValues Fault → Type 0
IsFinished doc ys at (Err f) = check [] (map (attr_of doc) ys) ≡ fault f.number f.place
IsFinished doc ys at (Ok g) =
    (ss : List Shown) × (check [] (map (attr_of doc) ys) ≡ good ss) × (g.end ≡ at) × (g.values ≡ values_in doc ys)

pub record Finishes (doc : List ℕ) (ys : List Attribute) (at : ℕ) (r : Result TagValues Fault) : Type 0 where
  pub is : IsFinished doc ys at r

-- an answer that is no fault is a place further on, within the document, and the values are before it
abbrev pub Onward : List ℕ → ℕ → Result TagValues Fault → Type 0
Onward doc from (Err f) = Unit {0}
Onward doc from (Ok g) = (from ≤ g.end) × (g.end ≤ length doc) × ValuesFit from g.end g.values

-- the tag's token, whatever its place and name: the fault, or the token of these attributes
abbrev pub Leads : List ℕ → ℕ → Result TagValues Fault → Type 0
Leads doc from (Err f) =
    (at : ℕ) (name : List ℕ) → with_attrs at name (gather 256 (drop from doc) from) ≡ last (tokens.fault f.number f.place)
Leads doc from (Ok g) =
    (xs : List Shown) × ValuesAre doc g.values xs
    × ((at : ℕ) (name : List ℕ) → with_attrs at name (gather 256 (drop from doc) from) ≡ tag_end at name xs (past white (drop g.end doc)) (g.end + length (span white (drop g.end doc))))

-- what reading the attributes of a tag from a place on says
pub record Gathers (doc : List ℕ) (from : ℕ) (r : Result TagValues Fault) : Type 0 where
  pub onward : Onward doc from r
  pub is : Leads doc from r
