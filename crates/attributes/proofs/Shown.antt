-- The check of a raw value: a fault's place lies in it.
use Prim.Native.Nat.{ℕ, zero, suc, ◌+◌, ◌-◌, ◌≤◌, ◌<◌, ◌^◌}
use mathlib.Core.Path.{◌≡◌}
use mathlib.Core.List.{List, [], ◌∷◌}
use borrow.Author.Rules.{rules}
use native.Mathlib.Omega.{arith}
use lib.ListN.{length, take, drop, length-drop}
use lib.Seq.{length-take-le}
use Rattle.std.specs.Prelude.{Ok, Result, Ok, Err}
use Rattle.answers.specs.Text.{Text, text, wrong}
use Rattle.references.specs.Unescape.{Piece, shows, bad, piece, before, joined, shown_from, unescape}
use Rattle.references.specs.Outcome as outcome
use Rattle.references.specs.declared.ValueFault.{ValueFault}
use Rattle.attributes.specs.Outcome.{References}
use Rattle.faults.specs.declared.Fault.{Fault}

-- a fault's place
wrong_before : (s : List ℕ) (t : Text) (n p m : ℕ) → before s t ≡ wrong n p → (t ≡ wrong n p → p < m) → p < m
wrong_before s (text t) n p m e f = let q : ◌≡◌ {A = ℕ} 0 1 = cc in absurd (omega arith)
wrong_before s (wrong k j) n p m e f = f e

wrong_from : (k : ℕ) (v : List ℕ) (at n p : ℕ) → shown_from k v at ≡ wrong n p → p < at + length v
wrong_from k [] at n p e = let q : ◌≡◌ {A = ℕ} 0 1 = cc in absurd (omega arith)
wrong_from zero (b ∷ v) at n p e = go (piece b v) e (λ w. wrong_from w v (suc at) n p)
  where
    go : (x : Piece) → joined x at (λ w. shown_from w v (suc at)) ≡ wrong n p → ((w : ℕ) → shown_from w v (suc at) ≡ wrong n p → p < suc at + length v) → p < at + suc (length v)
    go (shows s w) e f = wrong_before s (shown_from w v (suc at)) n p (at + suc (length v)) e (λ q. omega (arith, f w q))
    go (bad m) e f = let q : at ≡ p = cc in omega arith
wrong_from (suc k) (b ∷ v) at n p e = omega (arith, wrong_from k v (suc at) n p e)

wrong_within : (v : List ℕ) (n p : ℕ) → unescape v ≡ wrong n p → p < length v
unfolding unescape
wrong_within v n p e = omega (arith, wrong_from 0 v 0 n p e)

-- the check of a part of the document
module _ (doc : List ℕ) (at n : ℕ) {r : Result (Unit {0}) ValueFault} (c : outcome.Checks (take ((at + n) - at) (drop at doc)) r) where
  pub fault_near : {f : ValueFault} → r ≡ Err f → at + n ≤ length doc → length doc ≤ 1048576 → at + f.place.0 < 2 ^ 63
  fault_near {f} e h s =
      let m : (at + n) - at ≡ n = omega arith in
      let l : length (take n (drop at doc)) ≡ n = length-take-le n (drop at doc) (rw length-drop (omega arith)) in
      let w = wrong_within (take n (drop at doc)) f.number f.place.0 (rw m at (rw e at c).is) in
      omega arith

  pub references_good : r ≡ Ok tt → References doc at n (Ok tt)
  references_good e = let m : (at + n) - at ≡ n = omega arith in record { is = rw m at (rw e at c).is }

  pub references_fault : {f : ValueFault} {q : ℕ} {x : Fault} → r ≡ Err f → q ≡ at + f.place.0 → x ≡ record { number = f.number; place = q } → References doc at n (Err x)
  references_fault {f} {q} e h k = rw k let m : (at + n) - at ≡ n = omega arith in record { is = (f.place.0, rw m at (rw e at c).is, h) }

pub ruleset shown = (fault_near, references_good, references_fault, rules)
