-- What is left of a document from a place on.
use Prim.Native.Nat.{ℕ, suc, ◌+◌, ◌<◌}
use mathlib.Core.Path.{◌≡◌, refl, sym, ap, ◌∙◌}
use mathlib.Core.List.{List, [], ◌∷◌}
use mathlib.Core.Bool.{Bool, true, false}
use native.Mathlib.Nat.{add-zero}
use native.Mathlib.Numerals.{add-one}
use native.Mathlib.Omega.{arith}
use lib.ListN.{length, drop, take, get_or, length-drop}
use lib.Seq.{drop-drop, get_or-drop, take_at}
use Rattle.slices.specs.Bytes.{if, span, past}
use Rattle.slices.proofs.Runs.{Stops, past_at}
use Rattle.document.proofs.Branches.{span_and_past}

-- what follows a run does not begin with a byte of its class
pub past_begins : (p : ℕ → Bool) (l : List ℕ) → Stops p (past p l)
past_begins p [] = tt
past_begins p (b ∷ l) = go (p b) refl (past_begins p l)
  where
    go : (t : Bool) → p b ≡ t → Stops p (past p l) → Stops p (if t (past p l) (b ∷ l))
    go true e h = h
    go false e h = e

module _ (doc : List ℕ) where
  -- past a byte, and the byte
  pub next-left : (at b : ℕ) (l : List ℕ) → drop at doc ≡ b ∷ l → drop (suc at) doc ≡ l
  next-left at b l e = sym (rw add-one at (drop-drop 1 at doc)) ∙ ap (λ (k : List ℕ). drop 1 k) e

  pub byte_left : (at b : ℕ) (l : List ℕ) → drop at doc ≡ b ∷ l → (at < length doc) × (get_or doc at 0 ≡ b)
  byte_left at b l e =
      let n = ap length e in
      (omega (arith, length-drop at doc), sym (rw add-zero at (get_or-drop at doc 0 0)) ∙ ap (λ (k : List ℕ). get_or k 0 0) e)

  -- past a run, and the run
  pub past_left : (p : ℕ → Bool) (at : ℕ) (l : List ℕ) → drop at doc ≡ l → drop (at + length (span p l)) doc ≡ past p l
  past_left p at l e = rw e at (sym (past_at p doc at))

  pub span_left : (p : ℕ → Bool) (at : ℕ) (l : List ℕ) → drop at doc ≡ l → take (length (span p l)) (drop at doc) ≡ span p l
  span_left p at l e =
      ap (λ (k : List ℕ). take (length (span p l)) k) (e ∙ sym (span_and_past p l)) ∙ take_at (span p l) (past p l) (length (span p l)) refl
