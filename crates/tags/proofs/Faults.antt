-- Faults: what the refusal of a fault shows, by its number; and the token of a fault whose message shows nothing.
use Prim.Native.Nat.{ℕ, suc, ◌+◌, ◌-◌}
use mathlib.Core.Path.{◌≡◌, refl, ◌∙◌}
use mathlib.Core.List.{List, [], ◌∷◌}
use borrow.Author.Rules.{rules}
use borrow.Author.Tests.{ne_eqb}
use native.Mathlib.Omega.{arith}
use lib.ListN.{length, drop}
use Rattle.std.specs.Prelude.{Err}
use Rattle.slices.specs.Bytes.{other, span}
use Rattle.slices.specs.Run.{Run}
use Rattle.slices.proofs.Ends.{run_length}
use Rattle.scan.specs.Classes.{name_byte}
use Rattle.document.specs.Tokens as tokens
use Rattle.document.specs.Tokens.{last, fault}
use Rattle.document.specs.Refusals.{bare, showing, fault_in}
use Rattle.document.specs.declared.Excerpt.{Excerpt}
use Rattle.document.specs.declared.Refusal.{Refusal}
use Rattle.document.proofs.Tests.{among_each}
use Rattle.document.proofs.Ignorables.{Unended}
use Rattle.tags.specs.Outcome.{TagAt}

module _ {doc : List ℕ} {p end : ℕ} where
  pub reference_shown : {n : ℕ} {e : Excerpt} {x : Refusal} → Run (other 59) doc p end → e ≡ record { at = p; len = end - p + 1 } → x ≡ showing n p e → x ≡ showing n p (record { at = p; len = suc (length (span (other 59) (drop p doc))) })
  reference_shown {n} {e} {x} r q h =
      let l : end - p + 1 ≡ suc (length (span (other 59) (drop p doc))) = omega (arith, run_length r) in
      h ∙ rw (q, l)

  pub fault_named : {n : ℕ} {e : Excerpt} {x : Refusal} → n ≡ 8 → Run name_byte doc p end → e ≡ record { at = p; len = end - p } → x ≡ showing n p e → x ≡ fault_in doc n p
  unfolding fault_in
  fault_named {n} {e} {x} b r q h =
      let l : end - p ≡ length (span name_byte (drop p doc)) = omega (arith, run_length r) in
      h ∙ rw (q, b, l)

module _ (doc : List ℕ) {n p : ℕ} {x : Refusal} where
  pub fault_unknown : n ≡ 10 → x ≡ showing n p (record { at = p; len = suc (length (span (other 59) (drop p doc))) }) → x ≡ fault_in doc n p
  unfolding fault_in
  fault_unknown b h = h ∙ rw b

  pub fault_character : n ≡ 11 → x ≡ showing n p (record { at = p; len = suc (length (span (other 59) (drop p doc))) }) → x ≡ fault_in doc n p
  unfolding fault_in
  fault_character b h = h ∙ rw b

  pub fault_bare : (n ≡ 8 → ⊥) → (n ≡ 10 → ⊥) → (n ≡ 11 → ⊥) → x ≡ bare n p → x ≡ fault_in doc n p
  unfolding fault_in
  fault_bare a b c h = h ∙ rw (ne_eqb n 8 a, ne_eqb n 10 b, ne_eqb n 11 c)

-- what answers every need of `reference_in` and `fault_in`
pub ruleset faults = (reference_shown, fault_named, fault_unknown, fault_character, fault_bare, rules)

-- what is not ended, and a fault in the markup, show nothing
pub unended_bare : (doc : List ℕ) {n p : ℕ} → Unended n → bare n p ≡ fault_in doc n p
unfolding fault_in
unended_bare doc {n} {p} m = among_each (λ k. bare k p ≡ fault_in doc k p) n (22 ∷ 23 ∷ 24 ∷ 25 ∷ []) m (refl, (refl, (refl, (refl, tt))))

pub markup_at : {doc : List ℕ} {lt p : ℕ} {next : tokens.Next} {x : Refusal} → x ≡ bare 4 p → next ≡ last (fault 4 p) → TagAt doc lt next (Err x)
unfolding fault_in
markup_at {doc} {lt} {p} b e = record { onward = tt; is = (4, p, e, b) }
