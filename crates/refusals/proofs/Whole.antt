-- Every refusal and every warning of the reader has a message.
use Prim.Native.Nat.{ℕ, zero, suc, ◌+◌, ◌-◌, ◌*◌, ◌/◌, ◌<◌}
use mathlib.Core.Path.{◌≡◌, refl, ap}
use mathlib.Core.List.{List, [], ◌∷◌, ◌++◌}
use mathlib.Core.Bool.{◌||◌}
use borrow.Author.Tests.{ltb-false}
use native.Mathlib.Omega.{arith}
use lib.Dec.{ltb}
use lib.ListN.{length, replicate}
use Rattle.std.specs.Prelude.{Ok, Err}
use Rattle.utf8.specs.WellFormed.{ill_formed}
use Rattle.utf8.proofs.Texts.{bounded}
use Rattle.answers.specs.Text.{wrong}
use Rattle.document.specs.Tags.{Shown}
use Rattle.document.specs.Rows.{Warning, texts, warned}
use Rattle.document.specs.Reading.{State, begun, reading, accepted, refused, run}
use Rattle.document.specs.Whole.{Room, meaning, fitted, read, verdict_of, warnings_left}
use Rattle.document.specs.Outcome.{whole}
use Rattle.document.proofs.Tests.{either}
use Rattle.document.proofs.Steps.{Kept}
use Rattle.document.specs.declared.Counts.{Counts}
use Rattle.document.specs.Verdict.{counts}
use Rattle.messages.specs.Message.{message_of, warning_message_of}
use Rattle.bounds.specs.Bounds.{lent_refusals, Told}
use Rattle.bounds.proofs.Whole as bounds
use Rattle.refusals.specs.Told.{told_of, RefusalsTold, warning_word, WarningsTold}
use Rattle.refusals.proofs.Telling.{Showable, nothing_shown, refusal_told, warning_told}
use Rattle.refusals.proofs.States.{name_in, Warns, AllWarn, held, run_shows}

-- a refusal shows what stands in the document; so do the warnings of tables
abbrev pub Shows : List ℕ → State Shown → Type 0
Shows doc begun = Unit {0}
Shows doc (reading fs u) = Unit {0}
Shows doc (accepted u) = AllWarn doc u.warnings
Shows doc (refused x) = Showable doc x

module _ (doc : List ℕ) where
  kept_shows : (s : State Shown) → Kept (held doc) s → Shows doc s
  kept_shows begun h = tt
  kept_shows (reading fs u) h = tt
  kept_shows (accepted u) h = h
  kept_shows (refused x) h = h

  meaning_shows : Shows doc (meaning doc)
  unfolding meaning
  meaning_shows =
      either (Shows doc) (ltb 1048576 (length doc))
      (λ t. nothing_shown refl)
      (λ t. either (Shows doc) (ltb (ill_formed doc) (length doc))
      (λ t. nothing_shown refl)
      (λ t. kept_shows (run whole doc 0 begun) (run_shows doc (omega (arith, ltb-false (ill_formed doc) (length doc) t, bounded doc)))))

  fitted_shows : (r : Room) (s : State Shown) → Shows doc s → Shows doc (fitted (length doc) r s)
  fitted_shows r begun h = h
  fitted_shows r (reading fs u) h = h
  fitted_shows r (accepted u) h =
      either (Shows doc) (ltb (r.rows / 16) (length u.rows) || ltb (r.warnings / 4) (length u.warnings) || ltb r.text (length (texts u.rows)))
      (λ t. nothing_shown refl)
      (λ t. h)
  fitted_shows r (refused x) h = h

  pub read_shows : (r : Room) → Shows doc (read doc r)
  unfolding read
  read_shows r = fitted_shows r (meaning doc) meaning_shows

  -- the words of each warning, whatever stands after them
  warning_words : (P : ℕ → ℕ → ℕ → Type 0) → ((w : Warning) → Warns doc w → P w.reason (suc w.at) (length w.name)) → (ws : List Warning) (z : List ℕ) → AllWarn doc ws → (i : ℕ) → i < length ws → P (warning_word (warned ws ++ z) i 0) (warning_word (warned ws ++ z) i 2) (warning_word (warned ws ++ z) i 3)
  warning_words P f [] z h i l = absurd (omega arith)
  warning_words P f (w ∷ ws) z h zero l = f w h.0
  warning_words P f (w ∷ ws) z h (suc i) l =
      let a : suc i * 4 + 0 ≡ suc (suc (suc (suc (i * 4 + 0)))) = omega arith in
      let b : suc i * 4 + 2 ≡ suc (suc (suc (suc (i * 4 + 2)))) = omega arith in
      let c : suc i * 4 + 3 ≡ suc (suc (suc (suc (i * 4 + 3)))) = omega arith in
      rw (a, b, c) (warning_words P f ws z h.1 i (omega arith))

pub refusals_told : RefusalsTold
refusals_told doc rows warnings text room x s = go (read doc room) s.verdict (read_shows doc room) (bounds.read_told doc room)
  where
    go : (r : State Shown) → Err x ≡ verdict_of r → Shows doc r → Told lent_refusals (length doc) r → (out : ℕ) → message_of doc (told_of x) out ≡ wrong 19 0 → ⊥
    go begun e h b = absurd b
    go (reading fs u) e h b = absurd b
    go (accepted u) e h b = let z : ◌≡◌ {A = ℕ} 0 1 = cc in absurd (omega arith)
    go (refused y) e h b = let q : x ≡ y = cc in rw q (refusal_told doc y h)

pub warnings_told : WarningsTold
warnings_told doc rows warnings text room n t w s = go (read doc room) s.verdict s.of_warnings (read_shows doc room)
  where
    go : (r : State Shown) → Ok (counts n t w) ≡ verdict_of r → warnings ≡ warnings_left room r → Shows doc r → (i : ℕ) → i < w → (out : ℕ) → warning_message_of doc (warning_word warnings i 0) (warning_word warnings i 2) (warning_word warnings i 3) out ≡ wrong 19 0 → ⊥
    go begun e f h i l = let z : ◌≡◌ {A = ℕ} 0 1 = cc in absurd (omega arith)
    go (reading fs u) e f h i l = let z : ◌≡◌ {A = ℕ} 0 1 = cc in absurd (omega arith)
    go (accepted u) e f h i l =
        let k : counts n t w ≡ counts (length u.rows) (length (texts u.rows)) (length u.warnings) = cc in
        let m : w ≡ length u.warnings = ap (λ (z : Counts). z.warnings) k in
        rw f
        (warning_words doc (λ a b c. (out : ℕ) → warning_message_of doc a b c out ≡ wrong 19 0 → ⊥)
        (λ v g. warning_told doc v.reason (name_in v) g.reason g.name)
        u.warnings (replicate (room.warnings - length (warned u.warnings)) 0) h i (omega arith))
    go (refused y) e f h i l = let z : ◌≡◌ {A = ℕ} 0 1 = cc in absurd (omega arith)
