-- What is ignorable: the pieces, and the loop over them.
use Prim.Native.Nat.{ℕ, zero, suc, ◌+◌, ◌-◌, ◌≤◌, ◌<◌}
use mathlib.Core.Path.{◌≡◌, refl, sym, ◌∙◌}
use mathlib.Core.List.{List, [], ◌∷◌}
use mathlib.Core.Bool.{Bool, true, false, false≢true}
use borrow.Author.Rules.{rules}
use borrow.Author.Tests.{ne_eqb, eqb-true, not-true, not-false}
use native.Mathlib.Nat.{add-zero}
use native.Mathlib.Numerals.{add-one}
use native.Mathlib.Omega.{arith}
use lib.Dec.{eqb}
use lib.ListN.{length, drop, get_or, length-drop, drop_of_length-le}
use lib.Seq.{drop-cons, drop-drop}
use Rattle.std.proofs.Common.{Result, Ok, Err}
use Rattle.slices.specs.Bytes.{bytes, other, starts, if}
use Rattle.slices.specs.Run.{Run}
use Rattle.slices.proofs.Runs.{run_past, run_stop, starts_fits}
use Rattle.scan.specs.Ignorable.{Scans, Ignores, Marks, Onward, OnwardPast, bare, seek, declaration_in, declared, ignored, further, ignorable_from, ignorable}
use Rattle.faults.specs.declared.Fault.{Fault}
use Rattle.scan.specs.declared.Markup.{Markup}
use Rattle.scan.specs.declared.Markup.TheVariants.{Tag, Ignored}

-- a scan from further on is past the place
past_it : (s : List ℕ) (from : ℕ) (r : Result ℕ Fault) (at : ℕ) → at < from → Onward s from r → OnwardPast s at (ignored r)
past_it s from (Err f) at h o = tt
past_it s from (Ok p) at h o = (omega (arith, o.0), o.1)

-- a key that stands two places on, and n bytes long, leaves n places
key_fits : (s : List ℕ) (at : ℕ) (key : List ℕ) {t : Bool} → at + 2 ≤ length s → t ≡ starts key (drop (at + 2) s) → t ≡ true → at + (2 + length key) ≤ length s
key_fits s at key h e f = let n = starts_fits key (drop (at + 2) s) (sym e ∙ f) in omega (arith, rw length-drop at n)

pub comment_fits : (s : List ℕ) (at : ℕ) {t : Bool} → at + 2 ≤ length s → t ≡ starts (bytes "--") (drop (at + 2) s) → t ≡ true → at + 4 ≤ length s
comment_fits s at = key_fits s at (bytes "--")

pub cdata_fits : (s : List ℕ) (at : ℕ) {t : Bool} → at + 2 ≤ length s → t ≡ starts (bytes "[CDATA[") (drop (at + 2) s) → t ≡ true → at + 9 ≤ length s
cdata_fits s at = key_fits s at (bytes "[CDATA[")

module _ (s : List ℕ) (at : ℕ) {t : Bool} (e : t ≡ starts (bytes "--") (drop (at + 2) s)) where
  pub declared_comment : {r : Result ℕ Fault} → t ≡ true → Scans (seek 22 (bytes "-->") (at + 4)) s (at + 4) r → Ignores declared s at r
  declared_comment {r} f c =
      let n : at + 2 + 2 ≡ at + 4 = omega arith in
      record { is = c.is ∙ rw (sym e ∙ f, drop-drop 2 (at + 2) s, n); onward = past_it s (at + 4) r at (omega arith) c.onward }

  module _ (f : t ≡ false) {u : Bool} (d : u ≡ starts (bytes "[CDATA[") (drop (at + 2) s)) where
    pub declared_cdata : {r : Result ℕ Fault} → u ≡ true → Scans (seek 23 (bytes "]]>") (at + 9)) s (at + 9) r → Ignores declared s at r
    declared_cdata {r} g c =
        let n : at + 2 + 7 ≡ at + 9 = omega arith in
        record { is = c.is ∙ rw (sym e ∙ f, sym d ∙ g, drop-drop 7 (at + 2) s, n); onward = past_it s (at + 9) r at (omega arith) c.onward }

    pub declared_other : {r : Result ℕ Fault} → u ≡ false → Scans (declaration_in (bare 0)) s (at + 2) r → Ignores declared s at r
    declared_other {r} g c = record { is = c.is ∙ rw (sym e ∙ f, sym d ∙ g); onward = past_it s (at + 2) r at (omega arith) c.onward }

-- what begins at a `<`
module _ (s : List ℕ) (at : ℕ) where
  pub markup_last : length s ≤ at + 1 → Marks s at (Ok Tag)
  markup_last h = record { is = rw (drop_of_length-le s (rw add-one at h)); onward = tt }

  module _ (h : at + 1 < length s) where
    after : drop (suc at) s ≡ get_or s (at + 1) 0 ∷ drop (at + 2) s
    after = rw (← add-one at) (drop-cons s (at + 1) 0 h ∙ rw (← add-one (at + 1)) (rw e))
      where
        e : at + 1 + 1 ≡ at + 2
        e = omega arith

    pub markup_declared : {r : Result ℕ Fault} → get_or s (at + 1) 0 ≡ 33 → Ignores declared s at r → Marks s at (ignored r)
    markup_declared b c = record { is = rw (after, b, c.is); onward = c.onward }

    pub markup_instruction : {r : Result ℕ Fault} → get_or s (at + 1) 0 ≡ 63 → Scans (seek 24 (bytes "?>") (at + 2)) s (at + 2) r → Marks s at (ignored r)
    markup_instruction {r} b c = record { is = rw (after, b, c.is); onward = past_it s (at + 2) r at (omega arith) c.onward }

    pub markup_tag : (get_or s (at + 1) 0 ≡ 33 → ⊥) → (get_or s (at + 1) 0 ≡ 63 → ⊥) → Marks s at (Ok Tag)
    markup_tag f g = record { is = rw (after, ne_eqb _ _ f, ne_eqb _ _ g); onward = tt }

pub ruleset pieces = (comment_fits, declared_comment, cdata_fits, declared_cdata, declared_other, markup_last, markup_declared, markup_instruction, markup_tag, rules)

-- bytes that are taken already are dropped
pub taken : (k : ℕ) (l : List ℕ) (at : ℕ) → k ≤ length l → ignorable_from k l at ≡ ignorable_from 0 (drop k l) (at + k)
taken zero l at h = rw add-zero
taken (suc k) [] at h = absurd (omega arith)
taken (suc k) (b ∷ l) at h =
    let e : suc at + k ≡ at + suc k = omega arith in
    rw (← e) (taken k l (suc at) (omega arith))

-- reading on that began at from and stands at at, at a `<` or the end: what is left is what was asked
pub record Ignoring (s : List ℕ) (from at : ℕ) : Type 0 where
  pub left : ignorable (drop from s) from ≡ ignorable (drop at s) at
  pub since : from ≤ at
  pub inside : at ≤ length s
  pub tag : at < length s → get_or s at 0 ≡ 60

-- text is passed over
to_tag : {s : List ℕ} {from at r : ℕ} → from ≤ at → ignorable (drop from s) from ≡ ignorable (drop at s) at → Run (other 60) s at r → Ignoring s from r
unfolding ignorable
to_tag {s} {from} {at} {r} h e n = record {
  left = e ∙ run_past (ignorable_from 0) (other 60) (λ b l p o. rw (not-true (eqb b 60) o)) s at n;
  since = omega (arith, n.onward);
  inside = n.within;
  tag = λ l. eqb-true (get_or s r 0) 60 (not-false (eqb (get_or s r 0) 60) (run_stop n l));
}

pub ignore_begins : {s : List ℕ} {from r : ℕ} → Run (other 60) s from r → Ignoring s from r
ignore_begins n = to_tag (omega arith) refl n

module _ {s : List ℕ} {from at : ℕ} (g : Ignoring s from at) where
  pub ignore_ended : length s ≤ at → Scans ignorable s from (Ok at)
  unfolding ignorable
  ignore_ended h = record { is = sym (g.left ∙ rw (drop_of_length-le s h)); onward = (g.since, g.inside) }

  module _ (h : at < length s) {m : Result Markup Fault} (c : Marks s at m) where
    -- what the `<` comes to
    at_tag : ignorable (drop from s) from ≡ further m at (λ p. ignorable_from (p - suc at) (drop (suc at) s) (suc at))
    unfolding ignorable
    at_tag = g.left ∙ rw (drop-cons s at 0 h, g.tag h, c.is)

    pub ignore_tag : m ≡ Ok Tag → Scans ignorable s from (Ok at)
    ignore_tag e = record { is = sym (at_tag ∙ rw e); onward = (g.since, g.inside) }

    pub ignore_fault : {f : Fault} → m ≡ Err f → Scans ignorable s from (Err f)
    ignore_fault e = record { is = sym (at_tag ∙ rw e); onward = tt }

    pub ignore_more : {p r : ℕ} → m ≡ Ok (Ignored p) → Run (other 60) s p r → Ignoring s from r
    unfolding ignorable
    ignore_more {p} {r} e n =
        let d : Marks s at (Ok (Ignored p)) = rw e at c in
        let q : suc at + (p - suc at) ≡ p = omega (arith, d.onward) in
        to_tag (omega (arith, g.since, d.onward)) (at_tag ∙ rw e (go q (omega (arith, d.onward)))) n
      where
        go : suc at + (p - suc at) ≡ p → p - suc at ≤ length s - suc at → ignorable_from (p - suc at) (drop (suc at) s) (suc at) ≡ ignorable (drop p s) p
        go q b = taken (p - suc at) (drop (suc at) s) (suc at) (rw length-drop b) ∙ rw (drop-drop (p - suc at) (suc at) s, q)

    pub ignore_onward : {p : ℕ} → m ≡ Ok (Ignored p) → p ≤ length s
    ignore_onward {p} e = let d : Marks s at (Ok (Ignored p)) = rw e at c in d.onward.1

    pub ignore_less : {p r : ℕ} → m ≡ Ok (Ignored p) → Run (other 60) s p r → length s - r < length s - at
    ignore_less {p} {r} e n = let d : Marks s at (Ok (Ignored p)) = rw e at c in omega (arith, d.onward, n.onward)

pub ruleset ignores = (ignore_begins, ignore_ended, ignore_tag, ignore_fault, ignore_more, ignore_onward, ignore_less, rules)

-- what follows the `<` of a comment, whose inside and rest are r
pub comment_bytes : (x y z : ℕ) (r : List ℕ) → starts (bytes "!--") (x ∷ y ∷ z ∷ r) ≡ true → (x ≡ 33) × (y ≡ 45) × (z ≡ 45)
comment_bytes x y z r e = go (eqb 33 x) refl (eqb 45 y) refl (eqb 45 z) refl e
  where
    go : (t : Bool) → eqb 33 x ≡ t → (u : Bool) → eqb 45 y ≡ u → (v : Bool) → eqb 45 z ≡ v → if t (if u (if v true false) false) false ≡ true → (x ≡ 33) × (y ≡ 45) × (z ≡ 45)
    go true f true g true h e = (sym (eqb-true 33 x f), sym (eqb-true 45 y g), sym (eqb-true 45 z h))
    go true f true g false h e = absurd (false≢true e)
    go true f false g v h e = absurd (false≢true e)
    go false f u g v h e = absurd (false≢true e)
