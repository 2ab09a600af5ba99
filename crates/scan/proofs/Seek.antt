-- The search for a key: bytes that it does not begin with are passed over.
use Prim.Native.Nat.{ℕ, ◌+◌, ◌≤◌, ◌<◌, suc}
use mathlib.Core.Path.{◌≡◌, refl, sym, ◌∙◌}
use mathlib.Core.List.{List, [], ◌∷◌}
use mathlib.Core.Bool.{Bool, true, false}
use borrow.Author.Rules.{rules}
use borrow.Author.Tests.{ne_eqb, eqb-false, not-true}
use native.Mathlib.Numerals.{add-one}
use native.Mathlib.Omega.{arith}
use lib.Dec.{eqb}
use lib.ListN.{length, drop, get_or, length-drop, drop_of_length-le}
use lib.Seq.{drop-cons}
use Rattle.std.proofs.Common.{Ok, Err}
use Rattle.faults.specs.Fault.{fault}
use Rattle.slices.specs.Bytes.{other, starts, if}
use Rattle.slices.specs.Run.{Run}
use Rattle.slices.proofs.Runs.{run_past, starts_fits}
use Rattle.scan.specs.Ignorable.{Scans, seek}

-- a key does not stand where another byte does than its first
other_start : (f b : ℕ) (k l : List ℕ) → other f b ≡ true → starts (f ∷ k) (b ∷ l) ≡ false
other_start f b k l h = rw (ne_eqb f b (λ e. eqb-false b f (not-true (eqb b f) h) (sym e)))

-- a search that began at from and stands at at: what is left of it is what was asked
pub record Seeking (number : ℕ) (key s : List ℕ) (from at : ℕ) : Type 0 where
  pub left : seek number key from (drop from s) from ≡ seek number key from (drop at s) at
  pub since : from ≤ at
  pub inside : at ≤ length s

pub seek_begins : {number : ℕ} {key s : List ℕ} {from : ℕ} → from ≤ length s → Seeking number key s from from
seek_begins h = record { left = refl; since = omega arith; inside = h }

-- to the next place of its first byte
pub seek_first : {number : ℕ} {key s : List ℕ} {from at r : ℕ} → Seeking number key s from at → 0 < length key → Run (other (get_or key 0 0)) s at r → Seeking number key s from r
seek_first {number} {key} {s} {from} {at} {r} g h n = record { left = g.left ∙ to key h n; since = omega (arith, n.onward); inside = n.within }
  where
    to : (k : List ℕ) → 0 < length k → Run (other (get_or k 0 0)) s at r → seek number k from (drop at s) at ≡ seek number k from (drop r s) r
    to [] h n = absurd (omega arith)
    to (f ∷ k) h n = run_past (seek number (f ∷ k) from) (other f) (λ b l p e. rw (other_start f b k l e)) s at n

module _ {number : ℕ} {key s : List ℕ} {from at : ℕ} (g : Seeking number key s from at) where
  seek_next : at < length s → starts key (drop at s) ≡ false → Seeking number key s from (at + 1)
  seek_next h e = record { left = g.left ∙ go; since = omega arith; inside = omega arith }
    where
      go : seek number key from (drop at s) at ≡ seek number key from (drop (at + 1) s) (at + 1)
      go = rw (add-one, drop-cons s at 0 h) (rw (rw (drop-cons s at 0 h) at e))

  -- past a place where the key does not stand, to the next place of its first byte
  pub seek_again : {t : Bool} {r : ℕ} → 0 < length key → at < length s → t ≡ starts key (drop at s) → t ≡ false → Run (other (get_or key 0 0)) s (at + 1) r → Seeking number key s from r
  seek_again k h e f n = seek_first (seek_next h (sym e ∙ f)) k n

  pub seek_found : {t : Bool} → at < length s → t ≡ starts key (drop at s) → t ≡ true → Scans (seek number key from) s from (Ok (at + length key))
  seek_found h e f =
      let b : starts key (drop at s) ≡ true = sym e ∙ f in
      record {
        is = sym (g.left ∙ rw (drop-cons s at 0 h) (rw (rw (drop-cons s at 0 h) at b)));
        onward = (omega (arith, g.since), omega (arith, simp length-drop at (starts_fits key (drop at s) b)));
      }

  pub seek_ends : length s ≤ at → Scans (seek number key from) s from (Err (fault number from))
  seek_ends h = record { is = sym (g.left ∙ rw (drop_of_length-le s h)); onward = tt }

pub ruleset seeks = (seek_begins, seek_first, seek_again, seek_found, seek_ends, rules)

-- a key that is found ends past where the search began
pub seek_past : (n : ℕ) (key : List ℕ) (c : ℕ) (l : List ℕ) (p q : ℕ) → seek n key c l p ≡ Ok q → p + length key ≤ q
seek_past n key c [] p q e = let z : ◌≡◌ {A = ℕ} 0 1 = cc in absurd (omega arith)
seek_past n key c (b ∷ l) p q e = go (starts key (b ∷ l)) e (λ f. seek_past n key c l (suc p) q f)
  where
    go : (t : Bool) → if t (Ok (p + length key)) (seek n key c l (suc p)) ≡ Ok q → (seek n key c l (suc p) ≡ Ok q → suc p + length key ≤ q) → p + length key ≤ q
    go true e i = let z : p + length key ≡ q = cc in omega arith
    go false e i = let z = i e in omega arith
