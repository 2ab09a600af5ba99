-- The next token: what is ignorable ends at a `<` or at the end; a tag is a closing tag or a start tag.
use Prim.Native.Nat.{ℕ, zero, suc, ◌+◌, ◌-◌, ◌≤◌, ◌<◌}
use mathlib.Core.Path.{◌≡◌, refl, ap, sym, ◌∙◌}
use mathlib.Core.List.{List, [], ◌∷◌}
use mathlib.Core.Bool.{Bool, true, false}
use borrow.Author.Rules.{rules}
use borrow.Author.Tests.{ne_eqb, eqb-true}
use native.Mathlib.Numerals.{add-one}
use native.Mathlib.Omega.{arith}
use lib.Dec.{eqb}
use lib.ListN.{length, drop, get_or, length-drop, drop_of_length-le}
use lib.Seq.{drop-cons, drop-drop, get_or-drop}
use Rattle.std.specs.Prelude.{Result, Ok, Err}
use Rattle.faults.specs.declared.Fault.{Fault}
use Rattle.slices.specs.Bytes.{if}
use Rattle.scan.specs.Ignorable.{Scans, markup, further, ignorable_from, ignorable}
use Rattle.scan.specs.declared.Markup.{Markup}
use Rattle.scan.specs.declared.Markup.TheVariants.{Tag, Ignored}
use Rattle.document.specs.Tokens as tokens
use Rattle.document.specs.Tokens.{opening, closing, tag, tag_or_end, next}
use Rattle.document.specs.Refusals.{bare}
use Rattle.document.specs.Outcome.{OnwardToken, Tokenises}
use Rattle.document.specs.declared.ClosingTag.{ClosingTag}
use Rattle.document.specs.declared.Refusal.{Refusal}
use Rattle.document.specs.declared.Token.{Token}
use Rattle.document.proofs.Ignorables.{Scanned, ignorable_within}
use Rattle.tags.specs.Outcome.{TagStart, TagAt, closing_token}
use Rattle.tags.proofs.Faults.{markup_at, unended_bare}

-- a tag is a closing tag or a start tag
moved : {doc : List ℕ} {lt : ℕ} {x y : tokens.Next} {r : Result Token Refusal} → x ≡ y → TagAt doc lt y r → TagAt doc lt x r
moved e t = rw e t

module _ (doc : List ℕ) (lt : ℕ) where
  pub tag_unended : {x : Refusal} → length doc ≤ lt + 1 → x ≡ bare 4 (lt + 1) → TagAt doc lt (tag (drop (lt + 1) doc) lt) (Err x)
  tag_unended l b = markup_at b (rw (drop_of_length-le doc l, add-one))

  module _ (l : lt + 1 < length doc) {r : Result Token Refusal} where
    pub tag_closes : get_or doc (lt + 1) 0 ≡ 47 → TagAt doc lt (closing (drop (lt + 2) doc) lt) r → TagAt doc lt (tag (drop (lt + 1) doc) lt) r
    tag_closes b t =
        let z : lt + 1 + 1 ≡ lt + 2 = omega arith in
        let d : drop (lt + 1) doc ≡ 47 ∷ drop (lt + 2) doc = drop-cons doc (lt + 1) 0 l ∙ rw (← add-one (lt + 1), z, b) in
        moved (ap (λ (x : List ℕ). tag x lt) d) t

    pub tag_starts : (get_or doc (lt + 1) 0 ≡ 47 → ⊥) → TagAt doc lt (opening (drop (lt + 1) doc) lt) r → TagAt doc lt (tag (drop (lt + 1) doc) lt) r
    tag_starts b t = moved (rw (drop-cons doc (lt + 1) 0 l, ne_eqb _ _ b)) t

-- what a closing tag gives is what its token gives
module _ {doc : List ℕ} {lt : ℕ} {x : tokens.Next} {r : Result ClosingTag Refusal} (t : TagAt doc lt x (closing_token r)) where
  pub closing_refused : {y : Refusal} → r ≡ Err y → TagAt doc lt x (Err y)
  closing_refused {y} e = rw e at t

  pub closing_there : {c : ClosingTag} → r ≡ Ok c → TagAt doc lt x (Ok (Token.Close c))
  closing_there {c} e = rw e at t

-- what is ignorable ends at a `<` or at the end
abbrev Found : List ℕ → ℕ → ℕ → Type 0
Found l at p = (at ≤ p) × (p < at + length l → get_or l (p - at) 0 ≡ 60)

one_on : (b : ℕ) (l : List ℕ) (at p : ℕ) → Found l (suc at) p → Found (b ∷ l) at p
one_on b l at p f = (omega (arith, f.0), λ h. let z : p - at ≡ suc (p - suc at) = omega (arith, f.0) in rw z (f.1 (omega arith)))

found_tag : (k : ℕ) (l : List ℕ) (at p : ℕ) → ignorable_from k l at ≡ Ok p → Found l at p
found_tag k [] at p e = let z : at ≡ p = cc in (omega arith, λ h. absurd (omega arith))
found_tag (suc k) (b ∷ l) at p e = one_on b l at p (found_tag k l (suc at) p e)
found_tag zero (b ∷ l) at p e = go (eqb b 60) refl (markup l at) e (λ k. found_tag k l (suc at) p)
  where
    go : (t : Bool) → eqb b 60 ≡ t → (m : Result Markup Fault) → if t (further m at (λ q. ignorable_from (q - suc at) l (suc at))) (ignorable_from 0 l (suc at)) ≡ Ok p → ((k : ℕ) → ignorable_from k l (suc at) ≡ Ok p → Found l (suc at) p) → Found (b ∷ l) at p
    go true f (Ok Tag) e i =
        let z : at ≡ p = cc in
        let y : p - at ≡ 0 = omega arith in
        (omega arith, λ h. rw y (eqb-true b 60 f))
    go true f (Err x) e i = let z : ◌≡◌ {A = ℕ} 0 1 = cc in absurd (omega arith)
    go true f (Ok (Ignored q)) e i = one_on b l at p (i (q - suc at) e)
    go false f m e i = one_on b l at p (i 0 e)

-- what holds of a tag holds from an earlier place on
sooner : (doc : List ℕ) (from p : ℕ) (r : Result Token Refusal) → from ≤ p → OnwardToken doc p r → OnwardToken doc from r
sooner doc from q (Err x) h o = tt
sooner doc from q (Ok (Token.End p)) h o = tt
sooner doc from q (Ok (Token.Close c)) h o = (omega (arith, o.0), o.1, o.2, o.3, o.4)
sooner doc from q (Ok (Token.Start c)) h o = (omega (arith, o.0), o.1)

module _ {doc : List ℕ} {from : ℕ} {x : Result ℕ Fault} (s : Scans ignorable doc from x) where
  pub token_fault : {f : Fault} {y : Refusal} → x ≡ Err f → y ≡ bare f.number f.place → Tokenises doc from (Err y)
  unfolding next
  token_fault {f} e b =
      let h : Scanned from (from + length (drop from doc)) (Err f) = rw (← s.is, e) at (ignorable_within (drop from doc) from) in
      record { onward = tt; is = (f.number, f.place, rw (← s.is, e), b ∙ unended_bare doc h.0) }

  module _ {p : ℕ} (e : x ≡ Ok p) where
    past_it : from ≤ p
    past_it = let d : Scans ignorable doc from (Ok p) = rw e at s in d.onward.0

    next_at : next (drop from doc) from ≡ tag_or_end (drop p doc) p
    unfolding next
    next_at =
        let z : from + (p - from) ≡ p = omega (arith, past_it) in
        rw (← s.is, e, drop-drop (p - from) from doc, z)

    pub token_end : length doc ≤ p → Tokenises doc from (Ok (Token.End p))
    token_end l = record { onward = tt; is = next_at ∙ rw (drop_of_length-le doc l) }

    pub tag_found : length doc ≤ 1048576 → p < length doc → TagStart doc p
    unfolding ignorable
    tag_found m l =
        let f : Found (drop from doc) from p = found_tag 0 (drop from doc) from p (sym s.is ∙ e) in
        let z : from + (p - from) ≡ p = omega (arith, past_it) in
        let h : p < from + length (drop from doc) = rw length-drop (omega (arith, past_it)) in
        record { small = m; inside = l; is = rw (get_or-drop, z) at (f.1 h) }

    pub token_tag : p < length doc → {r : Result Token Refusal} → TagAt doc p (tag (drop (p + 1) doc) p) r → Tokenises doc from r
    token_tag l {r} t =
        let e : next (drop from doc) from ≡ tag (drop (p + 1) doc) p = next_at ∙ rw (drop-cons doc p 0 l, add-one) in
        record { onward = sooner doc from p r past_it t.onward; is = rw e t.is }

-- what answers every need of `token`
pub ruleset nexts = (token_fault, token_end, tag_found, token_tag, rules)
