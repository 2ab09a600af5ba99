-- What is said of every document of a length: the room that its tables take, and the number and place of its refusal.
use Rattle.std.specs.Prelude.{ℕ, ◌+◌, ◌*◌, ◌≤◌, ◌≡◌, List, ◌∷◌, true, length}
use Rattle.document.specs.Tags.{Shown}
use Rattle.document.specs.Rows.{Tables, texts}
use Rattle.document.specs.Elements.{among}
use Rattle.document.specs.Reading.{State, begun, reading, accepted, refused}
use Rattle.document.specs.Refusals.{faults}
use Rattle.document.specs.declared.Refusal.{Refusal}

-- the tables of a document that is accepted
pub record Fits (len : ℕ) (u : Tables Shown) : Type 0 where
  pub few : 4 * (length u.rows + length u.warnings) ≤ len
  pub text : length (texts u.rows) ≤ len

-- the numbers of faults met while reading, with 1 and 2, which are told before; with 18, of too little room. Neither 0 nor 19 to
-- 21, which are for writing, is among them
abbrev pub refusals : List ℕ
refusals = 1 ∷ 2 ∷ faults

abbrev pub lent_refusals : List ℕ
lent_refusals = 18 ∷ refusals

-- a refusal with one of these numbers, at a place in the document or at its end; 2 at the limit, which is passed; 18 at the end
pub record RefusedBy (ns : List ℕ) (len : ℕ) (x : Refusal) : Type 0 where
  pub number : among x.number ns ≡ true
  pub place : x.place ≤ len
  pub long : x.number ≡ 2 → x.place ≡ 1048576
  pub short : x.number ≡ 18 → x.place ≡ len

-- accepted or refused, and each so
abbrev pub Told : List ℕ → ℕ → State Shown → Type 0
Told ns len begun = ⊥
Told ns len (reading fs u) = ⊥
Told ns len (accepted u) = Fits len u
Told ns len (refused x) = RefusedBy ns len x
