-- One token of a run at a place of a document; what a run that has ended absorbs.
use Prim.Native.Nat.{ℕ, zero, suc, ◌+◌, ◌-◌, ◌≤◌, ◌<◌}
use native.Mathlib.Omega.{arith}
use native.Mathlib.Nat.{add-zero, sub_self}
use mathlib.Core.Path.{◌≡◌, refl, sym, ◌∙◌}
use mathlib.Core.List.{List, [], ◌∷◌}
use lib.ListN.{length, length-drop, drop}
use lib.Seq.{drop-cons, drop-drop}
use Rattle.scan.specs.Ignorable.{ignorable}
use Rattle.document.specs.Tokens.{Token, end, more, last, next, tokens_from, tokens}
use Rattle.document.specs.Rows.{Tables}
use Rattle.document.specs.Elements.{Keeping}
use Rattle.document.specs.declared.Refusal.{Refusal}
use Rattle.document.specs.Reading.{State, refused, accepted, step, fold, run}

-- bytes that are taken already are dropped
pub taken : (k : ℕ) (l : List ℕ) (at : ℕ) → k ≤ length l → tokens_from k l at ≡ tokens_from 0 (drop k l) (at + k)
taken zero l at h = rw add-zero
taken (suc k) [] at h = absurd (omega arith)
taken (suc k) (b ∷ l) at h =
    let e : suc at + k ≡ at + suc k = omega arith in
    rw (← e) (taken k l (suc at) (omega arith))

module _ {A : Type 0} (keep : Keeping A) (doc : List ℕ) (at : ℕ) (s : State A) where
  pub run_more : (t : Token) (q : ℕ) → next (drop at doc) at ≡ more t q → at < q → q ≤ length doc → run keep doc at s ≡ run keep doc q (step keep doc s t)
  unfolding run tokens
  run_more t q e m b =
      let h : at < length doc = omega arith in
      let n : suc at + (q - suc at) ≡ q = omega arith in
      rw (drop-cons doc at 0 h)
      (rw (rw (drop-cons doc at 0 h) at e)
      (rw (taken (q - suc at) (drop (suc at) doc) (suc at) (rw length-drop (omega arith)), drop-drop (q - suc at) (suc at) doc, n)))

  next_nothing : (p : ℕ) → next [] p ≡ last (end p)
  unfolding next ignorable
  next_nothing p = rw sub_self

  pub run_last : (t : Token) → next (drop at doc) at ≡ last t → run keep doc at s ≡ step keep doc s t
  unfolding run tokens
  run_last t e = go (drop at doc) e
    where
      go : (l : List ℕ) → next l at ≡ last t → fold keep doc s (tokens_from 0 l at) ≡ step keep doc s t
      go [] e = let z : last (end at) ≡ last t = sym (next_nothing at) ∙ e in let y : end at ≡ t = cc in rw y
      go (b ∷ l) e = rw e

module _ {A : Type 0} (keep : Keeping A) (doc : List ℕ) where
  stays_refused : (x : Refusal) (ts : List Token) → fold keep doc (refused x) ts ≡ refused x
  unfolding step
  stays_refused x [] = refl
  stays_refused x (t ∷ ts) = stays_refused x ts

  pub run_refused : (at : ℕ) (x : Refusal) → run keep doc at (refused x) ≡ refused x
  unfolding run
  run_refused at x = stays_refused x (tokens (drop at doc) at)

  stays_accepted : (u : Tables A) (ts : List Token) → fold keep doc (accepted u) ts ≡ accepted u
  unfolding step
  stays_accepted u [] = refl
  stays_accepted u (t ∷ ts) = stays_accepted u ts

  pub run_accepted : (at : ℕ) (u : Tables A) → run keep doc at (accepted u) ≡ accepted u
  unfolding run
  run_accepted at u = stays_accepted u (tokens (drop at doc) at)
