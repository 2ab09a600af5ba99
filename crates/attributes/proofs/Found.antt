-- One attribute at a place: the end of its value, and the ways of looking for it.
use Prim.Native.Nat.{ℕ, suc, ◌+◌, ◌-◌, ◌≤◌, ◌<◌}
use mathlib.Core.Path.{◌≡◌, refl, sym, ◌∙◌}
use mathlib.Core.List.{List, []}
use mathlib.Core.Bool.{Bool, true, false, ◌||◌}
use borrow.Author.Rules.{rules}
use borrow.Author.Tests.{eqb-true, ne_eqb}
use native.Mathlib.Numerals.{add-one}
use native.Mathlib.Omega.{arith}
use lib.Dec.{eqb}
use lib.ListN.{length, drop, get_or, drop_of_length-le}
use lib.Seq.{drop-cons}
use Rattle.std.specs.Prelude.{Option, Some, None}
use Rattle.slices.specs.Bytes.{other, span, past}
use Rattle.slices.specs.Run.{Run}
use Rattle.slices.proofs.Runs.{Running, run_begins, run_more, run_stops, run_ends, other_true, other_false}
use Rattle.slices.proofs.Ends.{run_span, run_rest, run_empty, run_some}
use Rattle.scan.specs.Classes.{white, name_byte}
use Rattle.scan.specs.Ignorable.{quote}
use Rattle.references.specs.Unescape.{special}
use Rattle.document.specs.declared.Form.{Form}
use Rattle.document.specs.Tags.{Found as Finding, attribute, equals, open_quote, is_tp_type}
use Rattle.attributes.specs.One.{part, form_from, Fit, Quotes, Named, Finds}
use Rattle.attributes.specs.declared.Attribute.{Attribute}
use Rattle.attributes.specs.declared.ValueEnd.{ValueEnd}
use Rattle.attributes.specs.declared.Located.{Located}

-- a byte that a value does not show as it is
module _ {b : ℕ} where
  pub special_above : 38 < b → false ≡ special b
  special_above h = rw (ne_eqb b 38 (omega arith), ne_eqb b 9 (omega arith), ne_eqb b 10 (omega arith), ne_eqb b 13 (omega arith))

-- a loop over a value that began at from and stands at at: the form of what is left, after this form, is what was asked
pub record Quoting (q : ℕ) (doc : List ℕ) (from at : ℕ) (form : Form) : Type 0 where
  pub run : Running (other q) doc from at
  pub left : form_from Form.Plain (span (other q) (drop from doc)) ≡ form_from form (span (other q) (drop at doc))

pub quote_begins : {q : ℕ} {doc : List ℕ} {from : ℕ} → from ≤ length doc → Quoting q doc from from Form.Plain
quote_begins h = record { run = run_begins h; left = refl }

module _ {q : ℕ} {doc : List ℕ} {from at : ℕ} {form : Form} (g : Quoting q doc from at form) where
  pub quote_closes : at < length doc → get_or doc at 0 ≡ q → Quotes q doc from (record { end = at; form = form })
  quote_closes h e = record {
    closed = h;
    run = run_stops g.run h (other_false _ _ e);
    form = sym (g.left ∙ rw (drop-cons doc at 0 h, other_false _ _ e));
  }

  -- a byte above both quotes is plain
  pub quote_high : at < length doc → 39 < get_or doc at 0 → q ≤ 39 → Quoting q doc from (at + 1) form
  quote_high h l k =
      let o : get_or doc at 0 ≡ q → ⊥ = λ e. absurd (omega arith) in
      let p : special (get_or doc at 0) ≡ false = sym (special_above {b = get_or doc at 0} (omega arith)) in
      record {
        run = run_more g.run h (other_true _ _ o);
        left = g.left ∙ rw (drop-cons doc at 0 h, other_true _ _ o, p, add-one);
      }

  -- no quote to the end
  pub quote_none : length doc ≤ at → past (other q) (drop from doc) ≡ []
  quote_none h = run_rest (run_ends g.run h) ∙ drop_of_length-le doc h

  module _ (h : at < length doc) (o : get_or doc at 0 ≡ q → ⊥) {t : Bool} (e : t ≡ special (get_or doc at 0)) where
    pub quote_plain : t ≡ false → Quoting q doc from (at + 1) form
    quote_plain f = record {
      run = run_more g.run h (other_true _ _ o);
      left = g.left ∙ rw (drop-cons doc at 0 h, other_true _ _ o, sym e ∙ f, add-one);
    }

-- what fits between two places fits between two that are further apart
pub fit_wide : {doc : List ℕ} {from from' to to' : ℕ} {a : Attribute} → from' ≤ from → to ≤ to' → Fit doc from to a → Fit doc from' to' a
fit_wide h l f = record {
  name = omega (arith, f.name);
  value = omega (arith, f.value);
  short = omega (arith, f.short);
  form = f.form;
  tp = f.tp;
}

-- one definition leads to another further on
carries : {f g : List ℕ → ℕ → Finding} {doc : List ℕ} {from at : ℕ} (r : Option Located) → from ≤ at → f (drop from doc) from ≡ g (drop at doc) at → Finds g doc at r → Finds f doc from r
carries {f} {g} {doc} {from} {at} None h e c = record { onward = tt; is = e ∙ c.is }
carries {f} {g} {doc} {from} {at} (Some x) h e c =
    record { onward = (omega (arith, c.onward.0), c.onward.1, fit_wide h (omega arith) c.onward.2, c.onward.3); is = e ∙ c.is }

-- a quote is one of two bytes
pub quote_low : {b : ℕ} {t : Bool} → t ≡ quote b → t ≡ true → b ≤ 39
quote_low {b} e f = go (eqb b 34) (eqb b 39) (eqb-true b 34) (eqb-true b 39) (sym e ∙ f)
  where
    go : (x y : Bool) → (x ≡ true → b ≡ 34) → (y ≡ true → b ≡ 39) → (x || y) ≡ true → b ≤ 39
    go true y p q r = omega (arith, p refl)
    go false true p q r = omega (arith, q refl)
    go false false p q r = let z : ◌≡◌ {A = ℕ} 0 1 = cc in absurd (omega arith)

-- at the opening quote
module _ {doc : List ℕ} {name n : ℕ} {tp : Bool} {at : ℕ} (g : Named doc name n tp at) where
  pub value_ended : length doc ≤ at → Finds (open_quote name (part doc name n)) doc at None
  value_ended h = record { onward = tt; is = rw (drop_of_length-le doc h) }

  module _ (h : at < length doc) {t : Bool} (e : t ≡ quote (get_or doc at 0)) where
    pub value_other : t ≡ false → Finds (open_quote name (part doc name n)) doc at None
    value_other f = record { onward = tt; is = rw (drop-cons doc at 0 h, sym e ∙ f) }

    pub value_unclosed : t ≡ true → past (other (get_or doc at 0)) (drop (at + 1) doc) ≡ [] → Finds (open_quote name (part doc name n)) doc at None
    value_unclosed f l =
        let m : past (other (get_or doc at 0)) (drop (suc at) doc) ≡ [] = rw add-one at l in
        record { onward = tt; is = rw (drop-cons doc at 0 h, sym e ∙ f, m) }

    module _ (f : t ≡ true) {v : ValueEnd} (c : Quotes (get_or doc at 0) doc (at + 1) v) where
      to_close : past (other (get_or doc at 0)) (drop (suc at) doc) ≡ drop v.end doc
      to_close = rw add-one at (run_rest c.run)

      pub value_found : Finds (open_quote name (part doc name n)) doc at (Some (record { attribute = record { name = name; name_len = n; value = at + 1; value_len = v.end - (at + 1); form = v.form; tp = tp; twin = true }; end = v.end + 1 }))
      value_found =
          let l : v.end < length doc = c.closed in
          let r : span (other (get_or doc at 0)) (drop (suc at) doc) ≡ part doc (suc at) (v.end - suc at) = rw add-one at (run_span c.run) in
          let p : suc at + length (span (other (get_or doc at 0)) (drop (suc at) doc)) ≡ v.end = sym (rw add-one at c.run.ends) in
          record {
            onward = (
              omega (arith, c.run.onward),
              omega arith,
              record {
                name = omega (arith, g.before, c.run.onward);
                value = omega (arith, c.run.onward);
                short = omega (arith, c.run.onward);
                form = c.form ∙ rw (run_span c.run);
                tp = g.type;
              },
              refl,
            );
            is = rw (add-one at, add-one v.end, drop-cons doc at 0 h, sym e ∙ f, to_close, drop-cons doc v.end 0 l, p, r);
          }

pub ruleset values = (value_ended, value_other, value_unclosed, value_found, rules)

-- at the `=`, whatever the name: what is left is from the opening quote on
pub equals_opens : (name : ℕ) (n : List ℕ) {doc : List ℕ} {at q : ℕ} → at < length doc → get_or doc at 0 ≡ 61 → Run white doc (at + 1) q → equals name n (drop at doc) at ≡ open_quote name n (drop q doc) q
equals_opens name n {doc} {at} {q} h e w =
    let p : suc at + length (span white (drop (suc at) doc)) ≡ q = sym (rw add-one at w.ends) in
    let m : past white (drop (suc at) doc) ≡ drop q doc = rw add-one at (run_rest w) in
    rw (drop-cons doc at 0 h, e, m, p)

module _ {doc : List ℕ} {name n : ℕ} {tp : Bool} {at : ℕ} (g : Named doc name n tp at) where
  pub equals_ended : length doc ≤ at → Finds (equals name (part doc name n)) doc at None
  equals_ended h = record { onward = tt; is = rw (drop_of_length-le doc h) }

  pub equals_other : at < length doc → (get_or doc at 0 ≡ 61 → ⊥) → Finds (equals name (part doc name n)) doc at None
  equals_other h e = record { onward = tt; is = rw (drop-cons doc at 0 h, ne_eqb _ _ e) }

  pub equals_found : {q : ℕ} {r : Option Located} → at < length doc → get_or doc at 0 ≡ 61 → Run white doc (at + 1) q → Finds (open_quote name (part doc name n)) doc q r → Finds (equals name (part doc name n)) doc at r
  equals_found {q} {r} h e w c = carries r (omega (arith, w.onward)) (equals_opens name (part doc name n) h e w) c

  pub named_on : {q : ℕ} → at < length doc → Run white doc (at + 1) q → Named doc name n tp q
  named_on h w = record { small = g.small; inside = w.within; before = omega (arith, g.before, w.onward); type = g.type }

-- at the white space before the name
module _ {doc : List ℕ} {from name : ℕ} (w : Run white doc from name) where
  pub none_spaced : name ≤ from → Finds attribute doc from None
  unfolding attribute
  none_spaced h = record { onward = tt; is = rw (run_empty w h) }

  module _ (h : from < name) {end : ℕ} (n : Run name_byte doc name end) where
    pub none_named : end ≤ name → Finds attribute doc from None
    unfolding attribute
    none_named l = record { onward = tt; is = rw (run_some w h, run_rest w, run_empty n l) }

    module _ (l : name < end) {at : ℕ} (v : Run white doc end at) where
      pub attribute_equals : attribute (drop from doc) from ≡ equals name (part doc name (end - name)) (drop at doc) at
      unfolding attribute
      attribute_equals = rw (run_some w h, run_rest w, ← w.ends, run_some n l, run_rest n, run_rest v, ← n.ends, ← v.ends, run_span n)

      pub attribute_found : {r : Option Located} → Finds (equals name (part doc name (end - name))) doc at r → Finds attribute doc from r
      attribute_found {r} c = carries r (omega (arith, w.onward, n.onward, v.onward)) attribute_equals c

pub named_before : {doc : List ℕ} {from name end at : ℕ} {tp : Bool} → length doc ≤ 1048576 → Run white doc from name → Run name_byte doc name end → Run white doc end at → tp ≡ is_tp_type (part doc name (end - name)) → Named doc name (end - name) tp at
named_before s w n v e = record { small = s; inside = v.within; before = omega (arith, n.onward, v.onward); type = e }

pub ruleset finds = (equals_ended, equals_other, equals_found, named_on, none_spaced, none_named, attribute_found, named_before, rules)
