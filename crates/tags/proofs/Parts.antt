-- Closing tags, and the end of a start tag.
use Prim.Native.Nat.{ℕ, suc, ◌+◌, ◌-◌, ◌≤◌, ◌<◌}
use mathlib.Core.Path.{◌≡◌, refl, ◌∙◌}
use mathlib.Core.List.{List}
use mathlib.Core.Bool.{true, false}
use borrow.Author.Rules.{rules}
use borrow.Author.Tests.{ne_eqb}
use native.Mathlib.Numerals.{add-one}
use native.Mathlib.Omega.{arith}
use lib.ListN.{length, take, drop, get_or, drop_of_length-le}
use lib.Seq.{drop-cons}
use Rattle.std.specs.Prelude.{Err, Ok}
use Rattle.slices.specs.Bytes.{span, past}
use Rattle.slices.specs.Run.{Run}
use Rattle.slices.proofs.Ends.{run_length, run_span, run_rest, run_empty, run_some}
use Rattle.scan.specs.Classes.{white, name_byte}
use Rattle.document.specs.Tags.{Shown}
use Rattle.document.specs.Tokens.{tag_end, slash_end, close_end, closing}
use Rattle.document.specs.Refusals.{bare}
use Rattle.document.specs.declared.Refusal.{Refusal}
use Rattle.document.specs.declared.Token.{Token}
use Rattle.tags.specs.Outcome.{TagStart, TagAt, Ends}
use Rattle.tags.proofs.Faults.{markup_at}
use Rattle.faults.specs.declared.Fault.{Fault}

-- closing tags
module _ {doc : List ℕ} {lt m : ℕ} (s : TagStart doc lt) (n : Run name_byte doc (lt + 2) m) where
  pub close_nameless : {x : Refusal} → m ≡ lt + 2 → x ≡ bare 4 (lt + 1) → TagAt doc lt (closing (drop (lt + 2) doc) lt) (Err x)
  unfolding closing
  close_nameless e q = markup_at q (rw (run_empty n (omega arith), add-one))

  module _ (h : m ≡ lt + 2 → ⊥) {e : ℕ} (w : Run white doc m e) where
    close_named : closing (drop (lt + 2) doc) lt ≡ close_end lt (take (m - (lt + 2)) (drop (lt + 2) doc)) (drop e doc) e
    unfolding closing
    close_named =
        let q : suc (suc lt) + length (span name_byte (drop (lt + 2) doc)) ≡ m = omega (arith, run_length n, n.onward) in
        rw (run_some n (omega (arith, n.onward)), run_rest n, run_rest w, q, ← w.ends, run_span n)

    pub close_unended : {x : Refusal} → length doc ≤ e → x ≡ bare 4 (lt + 1) → TagAt doc lt (closing (drop (lt + 2) doc) lt) (Err x)
    close_unended l q = markup_at q (close_named ∙ rw (drop_of_length-le doc l, add-one))

    pub close_other : {x : Refusal} → e < length doc → (get_or doc e 0 ≡ 62 → ⊥) → x ≡ bare 4 (lt + 1) → TagAt doc lt (closing (drop (lt + 2) doc) lt) (Err x)
    close_other l b q = markup_at q (close_named ∙ rw (drop-cons doc e 0 l, ne_eqb _ _ b, add-one))

    pub closes : e < length doc → get_or doc e 0 ≡ 62 → TagAt doc lt (closing (drop (lt + 2) doc) lt) (Ok (Token.Close record { lt = lt; at = lt + 2; len = m - (lt + 2); end = e + 1 }))
    closes l b = record {
      onward = (omega arith, refl, omega (arith, n.onward, w.onward), omega arith, s.is);
      is = close_named ∙ rw (drop-cons doc e 0 l, b, add-one);
    }

-- what answers every need of `closing_tag`
pub ruleset closings = (close_nameless, close_unended, close_other, closes, rules)

-- the end of a start tag
module _ {doc : List ℕ} {from e : ℕ} (w : Run white doc from e) where
  end_at : (lt : ℕ) (n : List ℕ) (xs : List Shown) → tag_end lt n xs (past white (drop from doc)) (from + length (span white (drop from doc))) ≡ tag_end lt n xs (drop e doc) e
  end_at lt n xs = rw (run_rest w, ← w.ends)

  pub end_missing : {f : Fault} → length doc ≤ e → f ≡ record { number = 4; place = e } → Ends doc from (Err f)
  end_missing l q = rw q record { onward = tt; is = λ lt n xs. (end_at lt n xs ∙ rw (drop_of_length-le doc l), refl) }

  module _ (l : e < length doc) where
    pub end-plain : get_or doc e 0 ≡ 62 → Ends doc from (Ok (record { closes = false; end = e + 1 }))
    end-plain b =
        let z : e + 1 - 1 ≡ e = omega arith in
        record {
          onward = (omega (arith, w.onward), omega arith, rw z b);
          is = λ lt n xs. end_at lt n xs ∙ rw (drop-cons doc e 0 l, b, add-one);
        }

    pub end_other : {f : Fault} → (get_or doc e 0 ≡ 62 → ⊥) → (get_or doc e 0 ≡ 47 → ⊥) → f ≡ record { number = 4; place = e } → Ends doc from (Err f)
    end_other a b q = rw q record { onward = tt; is = λ lt n xs. (end_at lt n xs ∙ rw (drop-cons doc e 0 l, ne_eqb _ _ a, ne_eqb _ _ b), refl) }

    module _ (b : get_or doc e 0 ≡ 47) where
      slash_at : (lt : ℕ) (n : List ℕ) (xs : List Shown) → tag_end lt n xs (drop e doc) e ≡ slash_end lt n xs (drop (e + 1) doc) e
      slash_at lt n xs = rw (drop-cons doc e 0 l, b, add-one)

      pub end_slash_missing : {f : Fault} → length doc ≤ e + 1 → f ≡ record { number = 4; place = e } → Ends doc from (Err f)
      end_slash_missing h q = rw q record { onward = tt; is = λ lt n xs. (end_at lt n xs ∙ slash_at lt n xs ∙ rw (drop_of_length-le doc h), refl) }

      pub end_slash_other : {f : Fault} → e + 1 < length doc → (get_or doc (e + 1) 0 ≡ 62 → ⊥) → f ≡ record { number = 4; place = e } → Ends doc from (Err f)
      end_slash_other h c q = rw q record { onward = tt; is = λ lt n xs. (end_at lt n xs ∙ slash_at lt n xs ∙ rw (drop-cons doc (e + 1) 0 h, ne_eqb _ _ c), refl) }

      pub end_slash : e + 1 < length doc → get_or doc (e + 1) 0 ≡ 62 → Ends doc from (Ok (record { closes = true; end = e + 2 }))
      end_slash h c =
          let z : e + 2 - 1 ≡ e + 1 = omega arith in
          let y : suc (suc e) ≡ e + 2 = omega arith in
          record {
            onward = (omega (arith, w.onward), omega arith, rw z c);
            is = λ lt n xs. end_at lt n xs ∙ slash_at lt n xs ∙ rw (drop-cons doc (e + 1) 0 h, c, y);
          }

-- what answers every need of `tag_end`
pub ruleset ends = (end_missing, end-plain, end_other, end_slash_missing, end_slash_other, end_slash, rules)
