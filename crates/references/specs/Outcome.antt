-- What the functions on values say.
use Rattle.std.specs.Prelude.{ℕ, suc, ◌+◌, ◌-◌, ◌≤◌, ◌<◌, ◌≡◌, List, [], ◌∷◌, length, drop, get_or, Result, Ok, Err}
use Rattle.answers.specs.Puts.{Puts}
use Rattle.utf8.specs.Encoding.{utf8}
use Rattle.answers.specs.Text.{text, wrong}
use Rattle.references.specs.Unescape as definition
use Rattle.references.specs.Unescape.{unescape, piece, shows, bad, character, fault}
use Rattle.references.specs.declared.Shown.{Shown}
use Rattle.references.specs.declared.Shown.TheVariants.{Byte, Char}
use Rattle.references.specs.declared.Piece.{Piece}
use Rattle.references.specs.declared.ValueFault.{ValueFault}

-- what a reference answers: a character's code, or a fault's number
abbrev pub reference_of : Result ℕ ℕ → definition.Reference
reference_of (Ok c) = character c
reference_of (Err n) = fault n

-- what a piece answers that begins at a place: the bytes shown, and the place after it
abbrev pub IsShown : List ℕ → ℕ → Shown → ℕ → Type 0
IsShown v at (Byte b) next = (piece (get_or v at 0) (drop (suc at) v) ≡ shows (b ∷ []) (next - suc at)) × (at < next) × (next ≤ length v)
IsShown v at (Char c) next = (piece (get_or v at 0) (drop (suc at) v) ≡ shows (utf8 c) (next - suc at)) × (at + 4 ≤ next) × (next ≤ length v) × (c < 1114112)

-- the same, or a fault's number
abbrev pub IsPiece : List ℕ → ℕ → Result Piece ℕ → Type 0
IsPiece v at (Ok p) = IsShown v at p.shown p.next
IsPiece v at (Err n) = piece (get_or v at 0) (drop (suc at) v) ≡ bad n

pub record Pieces (v : List ℕ) (at : ℕ) (r : Result Piece ℕ) : Type 0 where
  pub is : IsPiece v at r

-- what a check of a value answers
abbrev pub IsChecked : List ℕ → Result (Unit {0}) ValueFault → Type 0
IsChecked v (Ok u) = (t : List ℕ) × (unescape v ≡ text t)
IsChecked v (Err f) = unescape v ≡ wrong f.number f.place.0

pub record Checks (v : List ℕ) (r : Result (Unit {0}) ValueFault) : Type 0 where
  pub is : IsChecked v r

-- what putting the shown bytes of a value says: no more of them than the value has; and they are the text, where it shows one
pub record Shows (v : List ℕ) (n : ℕ) (buf buf' : List ℕ) (r : ℕ) : Type 0 where
  pub least : n ≤ r
  pub most : r ≤ n + length v
  pub puts : (t : List ℕ) → unescape v ≡ text t → Puts t n buf buf' r
