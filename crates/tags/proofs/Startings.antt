-- Start tags: the name, the attributes, the end.
use Prim.Native.Nat.{ℕ, suc, ◌+◌, ◌-◌, ◌≤◌}
use mathlib.Core.Path.{◌≡◌, refl, ap, sym, ◌∙◌}
use mathlib.Core.List.{List}
use mathlib.Core.Bool.{false≢true}
use borrow.Author.Rules.{rules}
use native.Mathlib.Numerals.{add-one}
use native.Mathlib.Omega.{arith}
use lib.ListN.{length, take, drop, length-take, length-drop}
use Rattle.std.specs.Prelude.{Err, Result, Ok, MatchResult, is_ok}
use Rattle.slices.specs.Bytes.{span}
use Rattle.slices.specs.Run.{Run}
use Rattle.slices.proofs.Ends.{run_length, run_span, run_rest, run_empty, run_some}
use Rattle.scan.specs.Classes.{name_byte}
use Rattle.document.specs.Tags.{gather}
use Rattle.document.specs.Tokens.{last, fault, with_attrs, opening}
use Rattle.document.specs.Elements.{kind_of}
use Rattle.document.specs.Refusals.{bare, fault_in}
use Rattle.document.specs.Outcome.{ValueFits, ValuesFit}
use Rattle.document.specs.declared.Value.{Value}
use Rattle.document.specs.declared.Values.{Values}
use Rattle.document.specs.declared.Refusal.{Refusal}
use Rattle.document.specs.declared.Token.{Token}
use Rattle.document.proofs.Attributes.{Met}
use Rattle.document.proofs.Nexts.{opening_reaches}
use Rattle.attributes.specs.Outcome.{Gathers}
use Rattle.tags.specs.declared.TagEnd.{TagEnd}
use Rattle.tags.specs.Outcome.{TagStart, TagAt, Ends}
use Rattle.tags.proofs.Faults.{markup_at}
use Rattle.faults.specs.declared.Fault.{Fault}
use Rattle.attributes.specs.declared.TagValues.{TagValues}

-- what fits between two places fits between places further apart
value_fits : {from to from' to' : ℕ} {v : Value} → from' ≤ from → to ≤ to' → ValueFits from to v → ValueFits from' to' v
value_fits a b f = record { until = omega (arith, f.until); short = omega (arith, f.short) }

values_fit : {from to from' to' : ℕ} {v : Values} → from' ≤ from → to ≤ to' → ValuesFit from to v → ValuesFit from' to' v
values_fit a b f = record {
  name = value_fits a b f.name;
  ty = value_fits a b f.ty;
  value = value_fits a b f.value;
  access = value_fits a b f.access;
  direction = value_fits a b f.direction;
  suffix = value_fits a b f.suffix;
  tp = value_fits a b f.tp;
}

-- what is good where its fault was turned into a refusal was good before
pub good_before : (Q : Fault → Type 0) {r : Result TagValues Fault} {m : Result TagValues Refusal} {g : TagValues} → MatchResult r (λ x. m ≡ Ok x) Q → is_ok m ≡ is_ok r → m ≡ Ok g → r ≡ Ok g
good_before Q {r = Ok x} e v q = let z : ◌≡◌ {A = Result TagValues Refusal} (Ok x) (Ok _) = sym e ∙ q in cc
good_before Q {r = Err f} e v q = absurd (false≢true (sym v ∙ ap is_ok q))

-- the attributes end within the document
pub attributes_end : {doc : List ℕ} {m : ℕ} {r : Result TagValues Fault} {g : TagValues} → Gathers doc m r → r ≡ Ok g → g.end ≤ length doc
attributes_end {doc} {m} {r} {g} h q = let d : Gathers doc m (Ok g) = rw q at h in d.onward.1

module _ {doc : List ℕ} (lt : ℕ) {m : ℕ} (n : Run name_byte doc (lt + 1) m) where
  pub start_nameless : {x : Refusal} → m ≡ lt + 1 → x ≡ bare 4 (lt + 1) → TagAt doc lt (opening (drop (lt + 1) doc) lt) (Err x)
  unfolding opening
  start_nameless e b = markup_at b (rw (run_empty n (omega arith), add-one))

  module _ (h : m ≡ lt + 1 → ⊥) {r : Result TagValues Fault} (g : Gathers doc m r) where
    start_named : opening (drop (lt + 1) doc) lt ≡ with_attrs lt (take (m - (lt + 1)) (drop (lt + 1) doc)) (gather 256 (drop m doc) m)
    unfolding opening
    start_named =
        let q : suc lt + length (span name_byte (drop (lt + 1) doc)) ≡ m = omega (arith, run_length n, n.onward) in
        rw (run_some n (omega (arith, n.onward)), run_rest n, q, run_span n)

    module _ {y : Fault} (q : r ≡ Err y) where
      start_faulty : opening (drop (lt + 1) doc) lt ≡ last (fault y.number y.place)
      start_faulty = start_named ∙ (rw q at g).is lt (take (m - (lt + 1)) (drop (lt + 1) doc))

      pub start_fault : {x : Refusal} → x ≡ fault_in doc y.number y.place → TagAt doc lt (opening (drop (lt + 1) doc) lt) (Err x)
      start_fault b = record { onward = tt; is = (y.number, y.place, start_faulty, b) }

    module _ {v : TagValues} (q : r ≡ Ok v) where
      module _ {t : Result TagEnd Fault} (f : Ends doc v.end t) where
        pub start_unended : {y : Fault} {x : Refusal} → t ≡ Err y → x ≡ bare y.number y.place → TagAt doc lt (opening (drop (lt + 1) doc) lt) (Err x)
        start_unended {y} h b =
            let d : Gathers doc m (Ok v) = rw q at g in
            let i : Ends doc v.end (Err y) = rw h at f in
            let name = take (m - (lt + 1)) (drop (lt + 1) doc) in
            let w = i.is lt name d.is.0 in
            markup_at (b ∙ ap (λ (k : ℕ). bare k y.place) w.1) (start_named ∙ d.is.2 lt name ∙ w.0)

        pub starts : {z : TagEnd} {k : ℕ} → t ≡ Ok z → k ≡ kind_of (take (m - (lt + 1)) (drop (lt + 1) doc)) → TagAt doc lt (opening (drop (lt + 1) doc) lt) (Ok (Token.Start record { at = lt + 1; len = m - (lt + 1); kind = k; closes = z.closes; end = z.end; values = v.values }))
        starts {z} {k} y u =
            let d : Gathers doc m (Ok v) = rw q at g in
            let i : Ends doc v.end (Ok z) = rw y at f in
            let name = take (m - (lt + 1)) (drop (lt + 1) doc) in
            record {
              onward = (
                omega arith,
                record {
                  named = omega (arith, n.onward);
                  inside = omega (arith, n.onward, d.onward.0, i.onward.0);
                  within = i.onward.1;
                  ends = i.onward.2;
                  values = values_fit (omega (arith, n.onward)) (omega (arith, i.onward.0)) d.onward.2;
                },
              );
              is = (
                record { at = lt; name = name; attrs = d.is.0; self = z.closes; after = z.end },
                record {
                  at = add-one lt;
                  named = record { is = refl; len = rw (length-take, length-drop) (omega (arith, n.within)) };
                  kind = u;
                  closes = refl;
                  end = refl;
                  values = d.is.1;
                },
                start_named ∙ d.is.2 lt name ∙ i.is lt name d.is.0,
              );
            }

-- the fault of the attributes is in the document
pub attributes_fault : {doc : List ℕ} {lt m : ℕ} {y : Fault} {r : Result TagValues Fault} → Gathers doc m r → r ≡ Err y → TagStart doc lt → Run name_byte doc (lt + 1) m → (m ≡ lt + 1 → ⊥) → y.place ≤ length doc
attributes_fault {doc} {lt} {m} {y} g q s n h =
    let z : suc lt + length (drop (lt + 1) doc) ≡ length doc = rw length-drop (omega (arith, n.onward, n.within)) in
    let f : Met (length doc) y.number y.place = rw (start_faulty lt n h g q) at (opening_reaches lt (length doc) (drop (lt + 1) doc) lt (omega arith) z) in
    f.place

-- what answers every need of `start_tag`
pub ruleset startings = (start_nameless, attributes_fault, start_fault, attributes_end, start_unended, starts, rules)
