-- Runs of a class of bytes: their lengths and bytes; and the numbers of faults.
use Prim.Native.Nat.{ℕ, zero, suc, ◌+◌, ◌<◌}
use mathlib.Core.Path.{◌≡◌, refl, ap, sym, ◌∙◌}
use mathlib.Core.List.{List, [], ◌∷◌, ◌++◌}
use mathlib.Core.Bool.{Bool, true, false}
use native.Mathlib.Omega.{arith}
use lib.ListN.{length, get_or, length-append}
use Rattle.slices.specs.Bytes.{if, span, past}
use Rattle.document.specs.Elements.{among}
use Rattle.document.specs.Refusals.{faults}

-- the number of a fault met while reading
abbrev pub Number : ℕ → Type 0
Number n = among n faults ≡ true

-- a run and what follows it are the whole
pub span_and_past : (p : ℕ → Bool) (l : List ℕ) → span p l ++ past p l ≡ l
span_and_past p [] = refl
span_and_past p (b ∷ l) = go (p b) (span_and_past p l)
  where
    go : (t : Bool) → span p l ++ past p l ≡ l → if t (b ∷ span p l) [] ++ if t (past p l) (b ∷ l) ≡ b ∷ l
    go true e = ap (◌∷◌ b) e
    go false e = refl

pub span_past : (p : ℕ → Bool) (l : List ℕ) → length (span p l) + length (past p l) ≡ length l
span_past p l = sym (length-append (span p l) (past p l)) ∙ ap length (span_and_past p l)

-- the bytes of a run are of its class
pub run-byte : (p : ℕ → Bool) (l : List ℕ) (i : ℕ) → i < length (span p l) → p (get_or l i 0) ≡ true
run-byte p [] i h = absurd (omega arith)
run-byte p (b ∷ l) i h = go (p b) refl i h (run-byte p l)
  where
    go : (t : Bool) → p b ≡ t → (i : ℕ) → i < length (if t (b ∷ span p l) []) → ((i : ℕ) → i < length (span p l) → p (get_or l i 0) ≡ true) → p (get_or (b ∷ l) i 0) ≡ true
    go true e zero h f = e
    go true e (suc i) h f = f i (omega arith)
    go false e i h f = absurd (omega arith)

-- a run that ends in a beginning of a list ends there in the whole
pub run_first : (p : ℕ → Bool) (l r : List ℕ) → length (span p l) < length l → span p (l ++ r) ≡ span p l
run_first p [] r h = absurd (omega arith)
run_first p (b ∷ l) r h = go (p b) h (run_first p l r)
  where
    go : (t : Bool) → length (if t (b ∷ span p l) []) < suc (length l) → (length (span p l) < length l → span p (l ++ r) ≡ span p l) → if t (b ∷ span p (l ++ r)) [] ≡ if t (b ∷ span p l) []
    go true h f = ap (◌∷◌ b) (f (omega arith))
    go false h f = refl
