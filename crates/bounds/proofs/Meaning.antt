-- The limit and ill-formed UTF-8 before reading, and the room after it.
use Prim.Native.Nat.{ℕ, ◌*◌, ◌/◌, ◌≤◌}
use mathlib.Core.Path.{◌≡◌, refl}
use mathlib.Core.List.{List, [], ◌∷◌}
use mathlib.Core.Bool.{◌||◌}
use borrow.Author.Tests.{ltb-true, le-ltb}
use native.Mathlib.Omega.{arith}
use lib.Dec.{ltb}
use lib.ListN.{length}
use Rattle.utf8.specs.WellFormed.{ill_formed}
use Rattle.document.specs.Tags.{Shown}
use Rattle.document.specs.Rows.{texts}
use Rattle.document.specs.Reading.{State, begun, reading, accepted, refused, run}
use Rattle.document.specs.Whole.{Room, meaning, fitted}
use Rattle.document.specs.Outcome.{whole}
use Rattle.document.specs.Refusals.{faults}
use Rattle.bounds.specs.Bounds.{refusals, lent_refusals, Told}
use Rattle.document.proofs.Steps.{Kept}
use Rattle.document.proofs.Tests.{never, either, among_there}
use Rattle.bounds.proofs.States.{final}
use Rattle.bounds.proofs.Folding.{run_final}

final_told : (len : ℕ) (s : State Shown) → Kept (final len) s → Told refusals len s
final_told len begun h = h
final_told len (reading [] u) h = h
final_told len (reading (f ∷ fs) u) h = h
final_told len (accepted u) h = h
final_told len (refused x) h = record {
  number = among_there x.number 1 (2 ∷ faults) (among_there x.number 2 faults h.number);
  place = h.place;
  long = λ e. never (rw e at h.number);
  short = λ e. never (rw e at h.number);
}

pub meaning_is : (doc : List ℕ) → Told refusals (length doc) (meaning doc)
unfolding meaning
meaning_is doc =
    either (Told refusals (length doc)) (ltb 1048576 (length doc))
    (λ t. record {
      number = refl;
      place = omega (arith, ltb-true 1048576 (length doc) t);
      long = λ e. refl;
      short = λ e. absurd (omega arith);
    })
    (λ t. either (Told refusals (length doc)) (ltb (ill_formed doc) (length doc))
    (λ t. record {
      number = refl;
      place = omega (arith, ltb-true (ill_formed doc) (length doc) t);
      long = λ e. absurd (omega arith);
      short = λ e. absurd (omega arith);
    })
    (λ t. final_told (length doc) (run whole doc 0 begun) (run_final doc)))

module _ (len : ℕ) (r : Room) where
  pub fitted_told : (s : State Shown) → Told refusals len s → Told lent_refusals len (fitted len r s)
  fitted_told begun h = h
  fitted_told (reading fs u) h = h
  fitted_told (accepted u) h =
      either (Told lent_refusals len) (ltb (r.rows / 16) (length u.rows) || ltb (r.warnings / 4) (length u.warnings) || ltb r.text (length (texts u.rows)))
      (λ t. record { number = refl; place = omega arith; long = λ e. absurd (omega arith); short = λ e. refl })
      (λ t. h)
  fitted_told (refused x) h = record { number = among_there x.number 18 refusals h.number; place = h.place; long = h.long; short = h.short }

  pub fitted_enough : (s : State Shown) → Told refusals len s → 4 * len ≤ r.rows → len ≤ r.warnings → len ≤ r.text → fitted len r s ≡ s
  fitted_enough begun h a b c = refl
  fitted_enough (reading fs u) h a b c = refl
  fitted_enough (accepted u) h a b c =
      rw (
        le-ltb (r.rows / 16) (length u.rows) (omega (arith, h.few)),
        le-ltb (r.warnings / 4) (length u.warnings) (omega (arith, h.few)),
        le-ltb r.text (length (texts u.rows)) (omega (arith, h.text)),
      )
  fitted_enough (refused x) h a b c = refl
