-- Of every document (docs/FORMAT.md, Tables and Answers): it is accepted or refused; the room that its tables take; the number
-- and place of a refusal. Then the same of reading with the room lent, and how much room is always enough.
use Prim.Native.Nat.{ℕ, ◌*◌, ◌≤◌}
use mathlib.Core.Path.{◌≡◌, refl}
use mathlib.Core.List.{List, [], ◌∷◌, map}
use mathlib.Core.Bool.{false}
use lib.ListN.{length}
use Rattle.document.specs.Tags.{Shown}
use Rattle.document.specs.Rows.{Tables}
use Rattle.document.specs.Elements.{among}
use Rattle.document.specs.Reading.{accepted, refused}
use Rattle.document.specs.Whole.{Room, meaning, read}
use Rattle.document.specs.declared.Refusal.{Refusal}
use Rattle.bounds.specs.Bounds.{refusals, lent_refusals, Fits, RefusedBy, Told}
use Rattle.bounds.proofs.Meaning.{meaning_is, fitted_told, fitted_enough}

module _ (doc : List ℕ) where
  pub meaning_told : Told refusals (length doc) (meaning doc)
  meaning_told = meaning_is doc

  pub room : {u : Tables Shown} → meaning doc ≡ accepted u → Fits (length doc) u
  room e = rw e at meaning_told

  pub refusal : {x : Refusal} → meaning doc ≡ refused x → RefusedBy refusals (length doc) x
  refusal e = rw e at meaning_told

  module _ (r : Room) where
    pub read_told : Told lent_refusals (length doc) (read doc r)
    unfolding read
    read_told = fitted_told (length doc) r (meaning doc) meaning_told

    pub read_room : {u : Tables Shown} → read doc r ≡ accepted u → Fits (length doc) u
    read_room e = rw e at read_told

    pub room_enough : 4 * length doc ≤ r.rows → length doc ≤ r.warnings → length doc ≤ r.text → read doc r ≡ meaning doc
    unfolding read
    room_enough = fitted_enough (length doc) r (meaning doc) meaning_told

-- 0 is told for acceptance alone, and 19 to 21 for writing
pub untold : map (λ n. among n lent_refusals) (0 ∷ 19 ∷ 20 ∷ 21 ∷ []) ≡ false ∷ false ∷ false ∷ false ∷ []
untold = refl
