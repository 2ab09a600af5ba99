-- The buffer left, and what is answered.
use Prim.Native.Nat.{ℕ, ◌-◌, ◌≤◌, ◌<◌}
use mathlib.Core.Path.{◌≡◌, refl, sym, ap, ◌∙◌}
use mathlib.Core.List.{List, ◌++◌}
use borrow.Author.Rules.{rules}
use borrow.Author.Tests.{lt-ltb, le-ltb}
use native.Mathlib.Nat.{mul-one}
use native.Mathlib.Omega.{arith}
use lib.ListN.{length, take, replicate}
use lib.Seq.{take-append_seam}
use Rattle.std.proofs.Common.{Result, Ok, Err}
use Rattle.faults.specs.Fault.{fault}
use Rattle.faults.specs.declared.Fault.{Fault}
use Rattle.tables.specs.Table.{Rep, Wiped, cleared}
use Rattle.tables.proofs.Tables.{clear_all, clear_rest}
use Rattle.answers.specs.Text.{Text, text, wrong, answer_of, left_of, Says, Makes, Finishes}

-- in the room of the buffer lent
pub makes : (f : ℕ → Text) {t t' : List ℕ} {r : Result ℕ Fault} → Says (f (length t)) (length t) t' r → Makes f t t' r
makes f s = record { answer = s.answer; left = s.left }

pub refused : {t t' : List ℕ} {n p : ℕ} → Wiped 0 t t' → Says (wrong n p) (length t) t' (Err (fault n p))
refused {t} z = record { answer = refl; left = z.is ∙ clear_all t }

module _ {n number place : ℕ} {t t' : List ℕ} where
  pub finish-full : {r : Result ℕ Fault} → length t < n → Says (wrong number place) (length t) t' r → Finishes n number place t t' r
  finish-full h s = record { says = λ xs k. rw (lt-ltb (length t) (length xs) (omega (arith, k.many, mul-one n))) s }

  pub finish_fits : n ≤ length t → Wiped n t t' → Finishes n number place t t' (Ok n)
  finish_fits h z = record {
    says = λ xs k.
        let e : length xs ≡ n = k.many ∙ mul-one n in
        rw (le-ltb (length t) (length xs) (omega arith)) record {
          answer = ap Ok (sym e);
          left = z.is ∙ rest xs k e;
        };
  }
    where
      rest : (xs : List ℕ) → Rep 1 t n xs → length xs ≡ n → cleared n t ≡ xs ++ replicate (length t - length xs) 0
      rest xs k e = rw e (rw mul-one at (clear_rest {w = 1} (omega arith) k (rw mul-one h)))

pub ruleset steps = (refused, finish-full, finish_fits, rules)

-- by a fault whose number and place are known
module _ {f : Fault} {number place : ℕ} (e : f ≡ fault number place) where
  f_number : f.number ≡ number
  f_number = ap (λ (z : Fault). z.number) e

  f_place : f.place ≡ place
  f_place = ap (λ (z : Fault). z.place) e

  pub told : {room : ℕ} {out : List ℕ} {r : Result ℕ Fault} → Says (wrong f.number f.place) room out r → Says (wrong number place) room out r
  told s = rw (f_number, f_place) at s

  pub finished : {n : ℕ} {t t' : List ℕ} {r : Result ℕ Fault} → Finishes n f.number f.place t t' r → Finishes n number place t t' r
  finished s = rw (f_number, f_place) at s

-- ---- what an answer says of the outcome

pub no_text : {A : Type 0} (n p : ℕ) (t : List ℕ) → wrong n p ≡ text t → A
no_text n p t e = let z : ◌≡◌ {A = ℕ} 0 1 = cc in absurd (omega arith)

-- so many bytes were written: they are the text, and the buffer begins with them
pub done-text : {o : Text} {room m : ℕ} {out : List ℕ} {r : Result ℕ Fault} → Says o room out r → r ≡ Ok m → (t : List ℕ) × (o ≡ text t) × (length t ≡ m) × (take m out ≡ t)
done-text {o} {room} {m} {out} {r} s e = go o (sym s.answer ∙ e) s.left
  where
    go : (o : Text) → answer_of o ≡ Ok m → out ≡ left_of room o → (t : List ℕ) × (o ≡ text t) × (length t ≡ m) × (take m out ≡ t)
    go (text t) q l = let n : length t ≡ m = cc in (t, refl, n, rw (l, ← n) (take-append_seam t (replicate (room - length t) 0)))
    go (wrong k p) q l = let z : ◌≡◌ {A = ℕ} 0 1 = cc in absurd (omega arith)

-- it was refused: so was the outcome
pub refused-wrong : {o : Text} {room k p : ℕ} {out : List ℕ} {r : Result ℕ Fault} → Says o room out r → r ≡ Err (fault k p) → o ≡ wrong k p
refused-wrong {o} {room} {k} {p} s e = go o (sym s.answer ∙ e)
  where
    go : (o : Text) → answer_of o ≡ Err (fault k p) → o ≡ wrong k p
    go (text t) q = let z : ◌≡◌ {A = ℕ} 0 1 = cc in absurd (omega arith)
    go (wrong n i) q =
        let f : fault n i ≡ fault k p = cc in
        let x : n ≡ k = ap (λ (z : Fault). z.number) f in
        let y : i ≡ p = ap (λ (z : Fault). z.place) f in
        rw (x, y)
