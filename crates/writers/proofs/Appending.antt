-- Laws of a loop that puts one piece after another.
use Prim.Native.Nat.{ℕ, suc, ◌+◌, ◌-◌, ◌*◌, ◌≤◌, ◌<◌}
use native.Mathlib.Omega.{arith}
use mathlib.Core.Path.{◌≡◌, refl, ap, sym, ◌∙◌}
use mathlib.Core.List.{List, [], ◌++◌, append_assoc, append-nil}
use lib.ListN.{length}
use Rattle.answers.specs.Puts.{Puts}
use Rattle.answers.proofs.Putting.{puts_none, puts_then, puts_as}

-- a loop from one number up to another: what is put, and what `rest` says is left from here on, are all that is asked for;
-- a turn puts at most `step` bytes
pub record Appending (rest : ℕ → List ℕ) (step from to n : ℕ) (t₀ t : List ℕ) (k m : ℕ) : Type 0 where
  pub done : List ℕ
  pub left : done ++ rest k ≡ rest from
  pub puts : Puts done n t₀ t m
  pub most : m ≤ n + (k - from) * step
  pub onward : from ≤ k
  pub within : k ≤ to
  pub same : length t ≡ length t₀

pub append_begins : {rest : ℕ → List ℕ} {step from to n : ℕ} {t : List ℕ} → from ≤ to → Appending rest step from to n t t from n
append_begins h = record { done = []; left = refl; puts = puts_none; most = omega arith; onward = omega arith; within = h; same = refl }

module _ {rest : ℕ → List ℕ} {step from to n k m : ℕ} {t₀ t : List ℕ} (g : Appending rest step from to n t₀ t k m) where
  pub append_ends : rest k ≡ [] → Puts (rest from) n t₀ t m
  append_ends e = puts_as (sym (append-nil g.done) ∙ ap (◌++◌ g.done) (sym e) ∙ g.left) g.puts

  pub append_more : {one t' : List ℕ} {r : ℕ} → k < to → rest k ≡ one ++ rest (suc k) → length t' ≡ length t → Puts one m t t' r → r ≤ m + step → Appending rest step from to n t₀ t' (k + 1) r
  append_more {one} h e s q b =
      let next : suc k ≡ k + 1 = omega arith in
      let turns : k + 1 - from ≡ suc (k - from) = omega (arith, g.onward) in
      record {
        done = g.done ++ one;
        left =
            ap (λ j. (g.done ++ one) ++ rest j) (sym next)
            ∙ append_assoc g.done one (rest (suc k))
            ∙ ap (◌++◌ g.done) (sym e)
            ∙ g.left;
        puts = puts_then g.puts q;
        most = rw turns (omega (arith, g.most, b));
        onward = omega (arith, g.onward);
        within = omega (arith, h);
        same = s ∙ g.same;
      }
