-- Content that may stand in an element whose content is passed over.
use Rattle.std.specs.Prelude.{ℕ, ◌+◌, ◌≡◌, List, [], ◌∷◌, ◌++◌, false, length, take, drop}
use Rattle.std.proofs.Math.Option.{Option, none, some}
use Rattle.slices.specs.Bytes.{empty}
use Rattle.utf8.specs.WhiteSpace.{trim_start, trim_end}
use Rattle.document.specs.Tags.{Shown}
use Rattle.document.specs.Tokens.{Token, tokens}
use Rattle.document.specs.Rows.{Doc, Row, Tables}
use Rattle.document.specs.Elements.{Keeping}
use Rattle.document.specs.Reading.{Name, Purpose, Frame, passing, reading, accepted, fold}
use Rattle.document.specs.Whole.{Room, read}

-- bytes that are tokens of their own before any closing tag (`</`), whatever follows it and wherever they stand; the tokens open and close
-- elements of their own alone; no White_Space stands at either end; and there are some
pub record Passable {A : Type 0} (keep : Keeping A) (s : List ℕ) : Type 0 where
  pub toks : ℕ → List Token
  pub lexed : (at : ℕ) (r : List ℕ) → tokens (s ++ (60 ∷ 47 ∷ r)) at ≡ toks at ++ tokens (60 ∷ 47 ∷ r) (at + length s)
  pub folds : (doc : List ℕ) (at : ℕ) (n : Name) (p : Purpose) (fs : List Frame) (u : Tables A) → fold keep doc (reading (passing p (n ∷ []) ∷ fs) u) (toks at) ≡ reading (passing p (n ∷ []) ∷ fs) u
  pub start : trim_start s ≡ 0
  pub end : trim_end s ≡ length s
  pub some : empty s ≡ false

-- a docstring of a row, if it has one
abbrev pub PassableDoc : {A : Type 0} → Keeping A → List ℕ → Option Doc → Type 0
PassableDoc keep doc none = Unit {0}
PassableDoc keep doc (some d) = Passable keep (take d.len (drop d.start doc))

-- of all rows
abbrev pub AllPassable : {A : Type 0} → Keeping A → List ℕ → List (Row Shown) → Type 0
AllPassable keep doc [] = Unit {0}
AllPassable keep doc (r ∷ rs) = PassableDoc keep doc r.doc × AllPassable keep doc rs

-- the docstrings of a document that is accepted
abbrev pub DocstringsPassable : {A : Type 0} → Keeping A → Type 0
DocstringsPassable keep = (doc : List ℕ) (room : Room) (t : Tables Shown) → read doc room ≡ accepted t → AllPassable keep doc t.rows
