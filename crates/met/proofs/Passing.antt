-- The comments on the way to the next tag, from a `<` to the next.
use Prim.Native.Nat.{ℕ, zero, suc, ◌+◌, ◌-◌, ◌≤◌, ◌<◌}
use mathlib.Core.Path.{◌≡◌, ◌∙◌}
use mathlib.Core.List.{List, [], ◌∷◌}
use borrow.Author.Tests.{not-true}
use native.Mathlib.Nat.{add-zero}
use native.Mathlib.Omega.{arith}
use lib.Dec.{eqb}
use lib.ListN.{length, drop, get_or, length-drop, drop_of_length-le}
use lib.Seq.{drop-cons, drop-drop}
use Rattle.std.specs.Prelude.{Result, Ok}
use Rattle.faults.specs.declared.Fault.{Fault}
use Rattle.slices.specs.Bytes.{other}
use Rattle.slices.specs.Run.{Run}
use Rattle.slices.proofs.Runs.{run_past}
use Rattle.scan.specs.Ignorable.{Marks}
use Rattle.scan.specs.declared.Markup.{Markup}
use Rattle.scan.specs.declared.Markup.TheVariants.{Tag, Ignored}
use Rattle.met.specs.Passed.{here, beyond, passed_from, passed_over}

-- bytes that are taken already are dropped
taken : (k : ℕ) (l : List ℕ) (at : ℕ) → k ≤ length l → passed_from k l at ≡ passed_from 0 (drop k l) (at + k)
taken zero l at h = rw add-zero
taken (suc k) [] at h = absurd (omega arith)
taken (suc k) (b ∷ l) at h =
    let e : suc at + k ≡ at + suc k = omega arith in
    rw (← e) (taken k l (suc at) (omega arith))

module _ (s : List ℕ) (at : ℕ) where
  -- there is none in text
  pub passed_text : {r : ℕ} → Run (other 60) s at r → passed_over (drop at s) at ≡ passed_over (drop r s) r
  unfolding passed_over
  passed_text n = run_past (passed_from 0) (other 60) (λ b l p o. rw (not-true (eqb b 60) o)) s at n

  pub passed_end : length s ≤ at → passed_over (drop at s) at ≡ []
  unfolding passed_over
  passed_end h = rw (drop_of_length-le s h)

  module _ (h : at < length s) (t : get_or s at 0 ≡ 60) {m : Result Markup Fault} (c : Marks s at m) where
    -- what the `<` comes to
    at_mark : passed_over (drop at s) at ≡ beyond m (drop (suc at) s) at (λ p. passed_from (p - suc at) (drop (suc at) s) (suc at))
    unfolding passed_over
    at_mark = rw (drop-cons s at 0 h, t, c.is)

    pub passed_tag : m ≡ Ok Tag → passed_over (drop at s) at ≡ []
    passed_tag e = at_mark ∙ rw e

    pub passed_more : {p : ℕ} → m ≡ Ok (Ignored p) → passed_over (drop at s) at ≡ here (drop (suc at) s) at (passed_over (drop p s) p)
    unfolding passed_over
    passed_more {p} e =
        let d : Marks s at (Ok (Ignored p)) = rw e at c in
        let q : suc at + (p - suc at) ≡ p = omega (arith, d.onward) in
        at_mark ∙ rw (e, taken (p - suc at) (drop (suc at) s) (suc at) (rw length-drop (omega (arith, d.onward))), drop-drop (p - suc at) (suc at) s, q)
