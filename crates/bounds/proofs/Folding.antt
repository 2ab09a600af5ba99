-- From the first token to the last: what reading a document comes to.
use Prim.Native.Nat.{ℕ, zero, suc, ◌+◌, ◌-◌, ◌≤◌}
use mathlib.Core.Path.{◌≡◌}
use mathlib.Core.List.{List, [], ◌∷◌}
use native.Mathlib.Nat.{add-zero}
use native.Mathlib.Omega.{arith}
use lib.ListN.{length}
use Rattle.document.specs.Tags.{Shown}
use Rattle.document.specs.Tokens.{end, Next, more, last, next, joined, tokens_from, tokens}
use Rattle.document.specs.Reading.{State, begun, step, fold, run}
use Rattle.document.specs.Outcome.{whole}
use Rattle.document.proofs.Steps.{Kept, step_kept}
use Rattle.document.proofs.Nexts.{Reaches, next_reaches, moves_on}
use Rattle.bounds.proofs.States.{held, final, one_step, last_step}

module _ (doc : List ℕ) (top : ℕ) where
  reads_final : (k : ℕ) (l : List ℕ) (at : ℕ) (s : State Shown) → k ≤ length l → at + length l ≡ top → Kept (held top (at + k)) s → Kept (final top) (fold whole doc s (tokens_from k l at))
  reads_final k [] at s h e i = step_kept whole doc (held top (at + k)) (final top) (final top) s (end at) (last_step doc top (at + k) (end at) (omega arith) (omega arith)) i
  reads_final zero (b ∷ l) at s h e i =
      go (next (b ∷ l) at) (rw e at (next_reaches (b ∷ l) at)) (λ k r h j. reads_final k l (suc at) r h (omega arith) j)
    where
      now : Kept (held top at) s
      now = rw add-zero at i

      go : (n : Next) → Reaches at top n → ((k : ℕ) (r : State Shown) → k ≤ length l → Kept (held top (suc at + k)) r → Kept (final top) (fold whole doc r (tokens_from k l (suc at)))) → Kept (final top) (fold whole doc s (joined n (λ p. tokens_from (p - suc at) l (suc at))))
      go (more t q) g f =
          let m = moves_on at top t q g in
          let n : suc at + (q - suc at) ≡ q = omega (arith, m) in
          f (q - suc at) (step whole doc s t) (omega (arith, m)) (rw n (step_kept whole doc (held top at) (held top (q - 1)) (held top q) s t (one_step doc top at q t (omega arith) g) now))
      go (last t) g f = step_kept whole doc (held top at) (final top) (final top) s t (last_step doc top at t (omega arith) g) now
  reads_final (suc k) (b ∷ l) at s h e i =
      let n : at + suc k ≡ suc at + k = omega arith in
      reads_final k l (suc at) s (omega arith) (omega arith) (rw n at i)

pub run_final : (doc : List ℕ) → Kept (final (length doc)) (run whole doc 0 begun)
unfolding run tokens
run_final doc = reads_final doc (length doc) 0 doc 0 begun (omega arith) (omega arith) tt
