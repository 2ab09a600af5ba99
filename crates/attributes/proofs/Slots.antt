-- The slots of the usual tag: one value for each class, and no two names of a class.
use Prim.Native.Nat.{ℕ, zero, suc, ◌+◌, ◌-◌, ◌≤◌, ◌<◌}
use mathlib.Core.Path.{◌≡◌, refl, sym, ap, ◌∙◌}
use mathlib.Core.List.{List, [], ◌∷◌, ◌++◌, map, map-append, append_assoc, append-nil}
use mathlib.Core.Option.{none, some}
use mathlib.Core.Bool.{Bool, true, false}
use borrow.Author.Rules.{rules}
use borrow.Author.Tests.{eqb-true, eqb-false, eq-eqb, ne_eqb}
use native.Mathlib.Numerals.{add-one}
use native.Mathlib.Omega.{arith}
use lib.Dec.{eqb}
use lib.ListN.{length, take, drop, get_or, set, replicate, length-replicate, get_or-replicate, length-set}
use lib.Seq.{drop-cons, take-suc-set, get_or-set_same, get_or-set_other}
use Rattle.std.specs.Prelude.{None, Some, Ok}
use Rattle.slices.specs.Bytes.{if, bytes, other, span, past, same}
use Rattle.slices.proofs.Runs.{same_equal}
use Rattle.slices.proofs.Ends.{run_span, run_rest}
use Rattle.answers.specs.Text.{text}
use Rattle.references.specs.Unescape.{unescape}
use Rattle.document.specs.declared.Form.{Form}
use Rattle.document.specs.Outcome.{is_absent}
use Rattle.document.specs.Tags.{Attr, Shown, absent, attribute, is_tp_type, check}
use Rattle.document.specs.declared.Value.{Value}
use Rattle.attributes.specs.One.{part, attr_of, Fit, Finds}
use Rattle.attributes.specs.Lookup.{blank, name_is, keyed, is_tp, first_by, value_of, value_in, values_in}
use Rattle.attributes.specs.Outcome.{attrs_of, listed, there, Gathers}
use Rattle.attributes.specs.Slots.{class_of, Opened, Plain}
use Rattle.attributes.specs.declared.Attribute.{Attribute}
use Rattle.attributes.specs.declared.Start.{Start}
use Rattle.attributes.proofs.Checking.{name_within, back, back_more, member_listed, fit_there, plain_shown, onto, onto_onto, onto_also, onto_none}
use Rattle.attributes.proofs.Picked.{AllFit, all_fit}
use Rattle.attributes.proofs.Gathering.{Gathering, gather_begins, gather_more, gather_ends}
use Rattle.attributes.proofs.Classes.{classed}

-- ---- how many slots are filled

abbrev pub no_value : Value
no_value = value_of none

abbrev filled : List Value → ℕ
filled [] = 0
filled (v ∷ vs) = let r = filled vs in if (there v) (suc r) r

filled_within : (vs : List Value) → filled vs ≤ length vs
filled_within [] = omega arith
filled_within (v ∷ vs) = go (there v) (filled_within vs)
  where
    go : (t : Bool) → filled vs ≤ length vs → if t (suc (filled vs)) (filled vs) ≤ suc (length vs)
    go true h = omega arith
    go false h = omega arith

filled_more : (vs : List Value) (k : ℕ) (v : Value) → k < length vs → there (get_or vs k no_value) ≡ false → there v ≡ true → filled (set vs k v) ≡ suc (filled vs)
filled_more [] k v h e f = absurd (omega arith)
filled_more (u ∷ vs) zero v h e f = rw (e, f)
filled_more (u ∷ vs) (suc k) v h e f = rw (filled_more vs k v (omega arith) e f) (go (there u))
  where
    go : (t : Bool) → if t (suc (suc (filled vs))) (suc (filled vs)) ≡ suc (if t (suc (filled vs)) (filled vs))
    go true = refl
    go false = refl

filled_none : (n : ℕ) → filled (replicate n no_value) ≡ 0
filled_none zero = refl
filled_none (suc n) = filled_none n

-- ---- the first of a kind, and one more

module _ (p : Attribute → Bool) where
  first_more : (ys : List Attribute) (a : Attribute) → p a ≡ false → first_by p (ys ++ a ∷ []) ≡ first_by p ys
  unfolding first_by
  first_more [] a e = rw e
  first_more (y ∷ ys) a e = rw (first_more ys a e)

  first_last : (ys : List Attribute) (a : Attribute) → first_by p ys ≡ none → p a ≡ true → first_by p (ys ++ a ∷ []) ≡ some a
  unfolding first_by
  first_last [] a e f = rw f
  first_last (y ∷ ys) a e f = go (p y) e (λ r. first_last ys a r f)
    where
      go : (t : Bool) → if t (some y) (first_by p ys) ≡ none → (first_by p ys ≡ none → first_by p (ys ++ a ∷ []) ≡ some a) → if t (some y) (first_by p (ys ++ a ∷ [])) ≡ some a
      go true e g = let z : ◌≡◌ {A = ℕ} 0 1 = cc in absurd (omega arith)
      go false e g = g e

  -- a value that is not there is that of none
  first-none : (doc : List ℕ) (from to : ℕ) (ys : List Attribute) → AllFit doc from to ys → there (value_in p ys) ≡ false → first_by p ys ≡ none
  unfolding value_in first_by
  first-none doc from to [] f e = refl
  first-none doc from to (y ∷ ys) f e = go (p y) e (first-none doc from to ys (λ k l. f (suc k) (omega arith)))
    where
      go : (t : Bool) → there (value_of (if t (some y) (first_by p ys))) ≡ false → (there (value_of (first_by p ys)) ≡ false → first_by p ys ≡ none) → if t (some y) (first_by p ys) ≡ none
      go true e g = let w : true ≡ false = sym (fit_there y (f 0 (omega arith))) ∙ e in let z : ◌≡◌ {A = ℕ} 0 1 = cc in absurd (omega arith)
      go false e g = g e

  -- two kinds that are the same where attributes fit
  module _ (q : Attribute → Bool) (doc : List ℕ) (from to : ℕ) (h : (y : Attribute) → Fit doc from to y → p y ≡ q y) where
    first-same : (ys : List Attribute) → AllFit doc from to ys → first_by p ys ≡ first_by q ys
    unfolding first_by
    first-same [] f = refl
    first-same (y ∷ ys) f = rw (h y (f 0 (omega arith)), first-same ys (λ k l. f (suc k) (omega arith)))

    value_same : (ys : List Attribute) → AllFit doc from to ys → value_in p ys ≡ value_in q ys
    unfolding value_in
    value_same ys f = ap value_of (first-same ys f)

-- ---- by class

abbrev of_class : List ℕ → ℕ → Attribute → Bool
of_class doc k a = eqb (class_of (attr_of doc a).name) k

-- where no attribute has its class, none has the name
unlisted : (doc : List ℕ) (n : List ℕ) (ys : List Attribute) → first_by (of_class doc (class_of n)) ys ≡ none → listed n (map (attr_of doc) ys) ≡ false
unfolding first_by
unlisted doc n [] e = refl
unlisted doc n (y ∷ ys) e = go (same (attr_of doc y).name n) refl (of_class doc (class_of n) y) refl e (unlisted doc n ys)
  where
    go : (s : Bool) → same (attr_of doc y).name n ≡ s → (t : Bool) → of_class doc (class_of n) y ≡ t → if t (some y) (first_by (of_class doc (class_of n)) ys) ≡ none → (first_by (of_class doc (class_of n)) ys ≡ none → listed n (map (attr_of doc) ys) ≡ false) → if s true (listed n (map (attr_of doc) ys)) ≡ false
    go s q true r e f = let z : ◌≡◌ {A = ℕ} 0 1 = cc in absurd (omega arith)
    go true q false r e f =
        let c : of_class doc (class_of n) y ≡ true = rw (same_equal (attr_of doc y).name n q) (eq-eqb (class_of n) (class_of n) refl) in
        let w : true ≡ false = sym c ∙ r in
        let z : ◌≡◌ {A = ℕ} 0 1 = cc in
        absurd (omega arith)
    go false q false r e f = f e

-- ---- one attribute

module _ {doc : List ℕ} {at : ℕ} {s : Start} (g : Opened doc at s) where
  pub slot_class : s.class < 8
  slot_class = rw g.class (classed (part doc g.name g.len)).below

  pub slot_within : s.value ≤ length doc
  slot_within = g.within

  pub slot_low : s.quote ≤ 39
  slot_low = g.low

  module _ {end : ℕ} (c : Plain s.quote doc s.value end) where
    -- the attribute, of which the code keeps the value alone
    abbrev one : Attribute
    one = record {
      name = g.name;
      name_len = g.len;
      value = s.value;
      value_len = end - s.value;
      form = Form.Plain;
      tp = is_tp_type (part doc g.name g.len);
      twin = true;
    }

    pub slot_onward : s.value ≤ end
    slot_onward = c.value.run.onward

    one_found : Finds attribute doc at (Some (record { attribute = one; end = end + 1 }))
    one_found =
        let q = c.value in
        let r : span (other s.quote) (drop s.value doc) ≡ part doc s.value (end - s.value) = run_span q.run in
        let l : past (other s.quote) (drop s.value doc) ≡ drop end doc = run_rest q.run in
        let p : s.value + length (span (other s.quote) (drop s.value doc)) ≡ end = sym q.run.ends in
        record {
          onward = (
            omega (arith, g.onward, slot_onward),
            omega arith,
            record {
              name = omega (arith, g.before, slot_onward);
              value = omega (arith, slot_onward);
              short = omega (arith, g.onward, slot_onward);
              form = q.form ∙ rw r;
              tp = refl;
            },
            refl,
          );
          is = g.is ∙ rw (add-one end, l, drop-cons doc end 0 c.value.closed, p, r);
        }

    one_shown : unescape (attr_of doc one).raw ≡ text (attr_of doc one).raw
    one_shown = plain_shown one one_found.onward.2 refl

-- ---- the loop

-- the slots hold the values of the attributes gathered, which have no two names of a class and are shown as they stand
pub record Slotting (doc : List ℕ) (from : ℕ) (slots : List Value) (at : ℕ) : Type 0 where
  pub xs : List Attribute
  pub n : ℕ
  pub count : n ≡ filled slots
  pub long : length slots ≡ 8
  pub so : Gathering 8 doc from xs n at
  pub shown : List Shown
  pub checked : (zs : List Attr) → check [] (attrs_of doc xs n ++ zs) ≡ onto shown (check (back (attrs_of doc xs n) []) zs)
  pub each : (k : ℕ) → k < 8 → get_or slots k no_value ≡ value_in (of_class doc k) (take n xs)

pub slots_begin : {doc : List ℕ} {from : ℕ} → from ≤ length doc → Slotting doc from (replicate 8 no_value) from
unfolding value_in first_by
slots_begin {doc} {from} h = record {
  xs = replicate 8 blank;
  n = 0;
  count = sym (filled_none 8);
  long = length-replicate 8 no_value;
  so = gather_begins h (length-replicate 8 blank);
  shown = [];
  checked = λ zs. sym (onto_none (check [] zs));
  each = λ k b. get_or-replicate 8 k no_value no_value b;
}

module _ {doc : List ℕ} {from : ℕ} {slots : List Value} {at : ℕ} (g : Slotting doc from slots at) where
  pub slots_inside : at ≤ length doc
  slots_inside = g.so.inside

  fits : AllFit doc from at (take g.n g.xs)
  fits = all_fit g.so.fitted (omega (arith, g.so.long, g.so.many)) g.so.inside

  by_name : (key : List ℕ) (k : ℕ) → k < 8 → ((n : List ℕ) → same n key ≡ eqb (class_of n) k) → get_or slots k no_value ≡ value_in (name_is (keyed key) doc) (take g.n g.xs)
  by_name key k b h =
      g.each k b
      ∙ value_same (of_class doc k) (name_is (keyed key) doc) doc from at (λ y f. sym (name_within (keyed key) doc y (omega (arith, f.name, g.so.inside)) ∙ h (attr_of doc y).name)) (take g.n g.xs) fits

  by_type : get_or slots 6 no_value ≡ value_in is_tp (take g.n g.xs)
  by_type =
      g.each 6 (omega arith)
      ∙ value_same (of_class doc 6) is_tp doc from at (λ y f. sym (f.tp ∙ (classed (attr_of doc y).name).tp)) (take g.n g.xs) fits

  pub slots_end : attribute (drop at doc) at ≡ absent → Gathers doc from (Ok (record { end = at; values = record { name = get_or slots 0 no_value; ty = get_or slots 1 no_value; value = get_or slots 2 no_value; access = get_or slots 3 no_value; direction = get_or slots 4 no_value; suffix = get_or slots 5 no_value; tp = get_or slots 6 no_value } }))
  unfolding values_in
  slots_end h =
      let e : check [] (attrs_of doc g.xs g.n) ≡ onto g.shown (check (back (attrs_of doc g.xs g.n) []) []) = rw append-nil at (g.checked []) in
      gather_ends g.so {o = None} (record { onward = tt; is = h }) refl (record {
        is = (
          g.shown ++ [],
          e,
          refl,
          rw (
            by_name (bytes "name") 0 (omega arith) (λ n. (classed n).name),
            by_name (bytes "type") 1 (omega arith) (λ n. (classed n).ty),
            by_name (bytes "value") 2 (omega arith) (λ n. (classed n).value),
            by_name (bytes "access") 3 (omega arith) (λ n. (classed n).access),
            by_name (bytes "direction") 4 (omega arith) (λ n. (classed n).direction),
            by_name (bytes "suffix") 5 (omega arith) (λ n. (classed n).suffix),
            by_type,
          ),
        );
      })

  module _ {s : Start} (c : Opened doc at s) {end : ℕ} (d : Plain s.quote doc s.value end) (e : is_absent (get_or slots s.class no_value) ≡ true) where
    abbrev new : Attribute
    new = one c d

    empty_slot : there (get_or slots s.class no_value) ≡ false
    empty_slot = rw e

    more : filled (set slots s.class (value_of (some new))) ≡ suc (filled slots)
    more = filled_more slots s.class (value_of (some new)) (omega (arith, g.long, slot_class c)) empty_slot refl

    room : g.n < 8
    room = omega (arith, g.count, g.long, more, filled_within (set slots s.class (value_of (some new))), length-set slots s.class (value_of (some new)))

    taken : take (g.n + 1) (set g.xs g.n new) ≡ take g.n g.xs ++ new ∷ []
    taken = rw add-one (take-suc-set g.xs g.n new (omega (arith, room, g.so.long)))

    no_first : first_by (of_class doc s.class) (take g.n g.xs) ≡ none
    no_first = first-none (of_class doc s.class) doc from at (take g.n g.xs) fits (sym (ap there (g.each s.class (slot_class c))) ∙ empty_slot)

    not_listed : listed (attr_of doc new).name (attrs_of doc g.xs g.n) ≡ false
    not_listed = unlisted doc (attr_of doc new).name (take g.n g.xs) (rw c.class at no_first)

    pub slots_more : Slotting doc from (set slots s.class (value_of (some new))) (end + 1)
    unfolding value_in
    slots_more = record {
      xs = set g.xs g.n new;
      n = g.n + 1;
      count = add-one g.n ∙ ap suc g.count ∙ sym more;
      long = length-set slots s.class (value_of (some new)) ∙ g.long;
      so = gather_more g.so (one_found c d) refl room (omega arith);
      shown = g.shown ++ record { attr = attr_of doc new; value = (attr_of doc new).raw } ∷ [];
      checked = λ zs. rw (taken, map-append, append_assoc, g.checked, member_listed, not_listed, one_shown c d, onto_also, onto_onto, back_more);
      each = λ k l. at_class k l (eqb k s.class) refl;
    }
      where
        at_class : (k : ℕ) → k < 8 → (t : Bool) → eqb k s.class ≡ t → get_or (set slots s.class (value_of (some new))) k no_value ≡ value_in (of_class doc k) (take (g.n + 1) (set g.xs g.n new))
        at_class k l true m =
            let q : k ≡ s.class = eqb-true k s.class m in
            let p : of_class doc s.class new ≡ true = eq-eqb (class_of (attr_of doc new).name) s.class (sym c.class) in
            rw (q, get_or-set_same slots s.class (value_of (some new)) no_value (omega (arith, g.long, slot_class c)), taken, first_last (of_class doc s.class) (take g.n g.xs) new no_first p)
        at_class k l false m =
            let q : k ≡ s.class → ⊥ = eqb-false k s.class m in
            let p : of_class doc k new ≡ false = ne_eqb (class_of (attr_of doc new).name) k (λ r. q (sym r ∙ sym c.class)) in
            rw (get_or-set_other slots s.class k (value_of (some new)) no_value q, taken, first_more (of_class doc k) (take g.n g.xs) new p) (g.each k l)

pub ruleset slotting = (slot_class, slot_within, slot_low, slots_begin, slots_inside, slots_end, rules)
