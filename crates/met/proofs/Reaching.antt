-- The tokens that reading comes to, one by one.
use Prim.Native.Nat.{ℕ, suc, ◌+◌, ◌-◌, ◌≤◌, ◌<◌}
use mathlib.Core.Path.{◌≡◌, refl}
use mathlib.Core.List.{List, [], ◌∷◌}
use mathlib.Core.Bool.{true, false}
use native.Mathlib.Omega.{arith}
use lib.ListN.{length, length-drop, drop}
use lib.Seq.{drop-cons, drop-drop}
use Rattle.document.specs.Tags.{Shown}
use Rattle.document.specs.Tokens.{Token, more, next, tokens}
use Rattle.document.specs.Reading.{State, step}
use Rattle.document.specs.Outcome.{whole}
use Rattle.document.proofs.Runs.{taken}
use Rattle.met.specs.Met.{goes_on, reached}

module _ (doc : List ℕ) (at : ℕ) (t : Token) (q : ℕ) (e : next (drop at doc) at ≡ more t q) (m : at < q) (b : q ≤ length doc) where
  pub tokens_more : tokens (drop at doc) at ≡ t ∷ tokens (drop q doc) q
  unfolding tokens
  tokens_more =
      let h : at < length doc = omega arith in
      let n : suc at + (q - suc at) ≡ q = omega arith in
      rw (drop-cons doc at 0 h)
      (rw (rw (drop-cons doc at 0 h) at e)
      (rw (taken (q - suc at) (drop (suc at) doc) (suc at) (rw length-drop (omega arith)), drop-drop (q - suc at) (suc at) doc, n)))

  pub reached-more : (s : State Shown) → goes_on s ≡ true → reached doc s (tokens (drop at doc) at) ≡ t ∷ reached doc (step whole doc s t) (tokens (drop q doc) q)
  reached-more s g = rw (tokens_more, g)

pub reached_none : (doc : List ℕ) (s : State Shown) (ts : List Token) → goes_on s ≡ false → reached doc s ts ≡ []
reached_none doc s [] g = refl
reached_none doc s (t ∷ ts) g = rw g
