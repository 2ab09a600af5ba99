-- The attributes of a tag, one after another, and the least breach in them.
use Prim.Native.Nat.{ℕ, zero, suc, ◌+◌, ◌-◌, ◌≤◌, ◌<◌}
use mathlib.Core.Path.{◌≡◌, refl, ap, sym, ◌∙◌}
use mathlib.Core.List.{List, [], ◌∷◌}
use borrow.Author.Rules.{rules}
use native.Mathlib.Omega.{arith}
use lib.ListN.{length, take, drop}
use Rattle.std.specs.Prelude.{Option, Some, None}
use Rattle.document.specs.Tags.{Attr, found, attribute, Gathered, gathered, too_many, with, gather}
use Rattle.document.specs.Outcome.{Sound}
use Rattle.attributes.specs.One.{attr_of, Finds}
use Rattle.attributes.specs.declared.Attribute.{Attribute}
use Rattle.profile.specs.Profile.{raw}
use Rattle.breaches.specs.Least.{lesser, least}
use Rattle.breaches.specs.Breaches.{places_of, in_value, in_values, in_name, in_names}
use Rattle.breaches.specs.Outcome.{NameAt, AttributeAt, attribute_breach, attributes_breach, Collects}
use Rattle.breaches.proofs.Order.{lesser_none, none_lesser, lesser_assoc, lesser_four, least_append}
use Rattle.breaches.proofs.Names.{attribute_stands}
use Rattle.attributes.specs.declared.Located.{Located}
use Rattle.attributes.proofs.Gathering.{gather_none}

-- ---- one attribute

module _ {doc : List ℕ} {a : Attribute} (s : AttributeAt doc a) where
  pub attribute_name : NameAt doc a.name (a.name + a.name_len)
  attribute_name =
      let e : a.name + a.name_len - a.name ≡ a.name_len = omega arith in
      record { small = s.small; onward = omega arith; inside = s.name; formed = rw e s.formed }

  pub attribute_value : (a.value ≤ a.value + a.value_len) × (a.value + a.value_len ≤ length doc) × (length doc ≤ 1048576)
  attribute_value = (omega arith, s.value, s.small)

  pub attribute_told : {n v r : Option ℕ} → n ≡ least (in_name (take (a.name + a.name_len - a.name) (drop a.name doc)) a.name) → v ≡ least (places_of raw (take (a.value + a.value_len - a.value) (drop a.value doc)) a.value) → r ≡ lesser v n → r ≡ attribute_breach (attr_of doc a)
  unfolding in_value
  attribute_told e f g =
      let k : a.name + a.name_len - a.name ≡ a.name_len = omega arith in
      let l : a.value + a.value_len - a.value ≡ a.value_len = omega arith in
      g ∙ rw (e, f, k, l)

pub ruleset attributing = (attribute_name, attribute_value, attribute_told, rules)

-- ---- all of them

none_breach : None ≡ attributes_breach []
unfolding attributes_breach least lesser
none_breach = refl

more_breach : (x : Attr) (xs : List Attr) → attributes_breach (x ∷ xs) ≡ lesser (attribute_breach x) (attributes_breach xs)
unfolding attributes_breach
more_breach x xs =
    rw (least_append (in_value x) (in_values xs), least_append (in_name x.name x.at) (in_names xs))
    (lesser_four (least (in_value x)) (least (in_values xs)) (least (in_name x.name x.at)) (least (in_names xs)))

-- what gathering comes to where there is an attribute
gather_one : (n : ℕ) (l : List ℕ) (at : ℕ) (x : Attr) (m : List ℕ) (q : ℕ) (xs : List Attr) (r : List ℕ) (p : ℕ) → attribute l at ≡ found x m q → gather n l at ≡ gathered xs r p → (k : ℕ) × (ys : List Attr) × (gather k m q ≡ gathered ys r p) × (xs ≡ x ∷ ys)
unfolding gather
gather_one zero l at x m q xs r p e g =
    let z : too_many x.at ≡ gathered xs r p = rw e at g in
    let y : ◌≡◌ {A = ℕ} 0 1 = cc in
    absurd (omega arith)
gather_one (suc n) l at x m q xs r p e g = go (gather n m q) refl (rw e at g)
  where
    go : (h : Gathered) → gather n m q ≡ h → with x h ≡ gathered xs r p → (k : ℕ) × (ys : List Attr) × (gather k m q ≡ gathered ys r p) × (xs ≡ x ∷ ys)
    go (gathered ys s t) f k =
        let a : s ≡ r = cc in
        let b : t ≡ p = cc in
        let c : x ∷ ys ≡ xs = cc in
        (n, ys, f ∙ rw (a, b), sym c)
    go (too_many t) f k = let y : ◌≡◌ {A = ℕ} 0 1 = cc in absurd (omega arith)

-- collecting that began at from and stands at at, with what was found
pub record Collecting (doc : List ℕ) (from at : ℕ) (b : Option ℕ) : Type 0 where
  pub since : from ≤ at
  pub inside : at ≤ length doc
  pub left : (n : ℕ) (xs : List Attr) (l : List ℕ) (p : ℕ) → gather n (drop from doc) from ≡ gathered xs l p → (m : ℕ) × (ys : List Attr) × (gather m (drop at doc) at ≡ gathered ys l p) × (attributes_breach xs ≡ lesser b (attributes_breach ys))

pub collect_begins : {doc : List ℕ} {from : ℕ} → from ≤ length doc → Collecting doc from from None
collect_begins h = record { since = omega arith; inside = h; left = λ n xs l p e. (n, xs, e, sym (none_lesser (attributes_breach xs))) }

module _ {doc : List ℕ} {from at : ℕ} {b : Option ℕ} (g : Collecting doc from at b) where
  pub collect_inside : at ≤ length doc
  collect_inside = g.inside

  module _ {o : Option Located} (c : Finds attribute doc at o) where
    pub collect_ended : o ≡ None → Collects doc from (record { at = at; breach = b })
    collect_ended e = record {
      since = g.since;
      inside = g.inside;
      is = λ n xs l p k.
          let d = g.left n xs l p k in
          let z : gathered [] (drop at doc) at ≡ gathered d.1 l p = sym (gather_none d.0 (drop at doc) at (rw e at c).is) ∙ d.2 in
          let y : at ≡ p = cc in
          let w : drop at doc ≡ l = cc in
          let v : [] ≡ d.1 = cc in
          (y, sym w ∙ rw y, sym (d.3 ∙ rw (← v, ← none_breach, lesser_none b)));
    }

    module _ {x : Located} (e : o ≡ Some x) where
      pub collect_stands : Sound doc → AttributeAt doc x.attribute
      collect_stands s = attribute_stands s g.inside c e

      pub collect_less : length doc - x.end < length doc - at
      collect_less = let d = (rw e at c).onward in omega (arith, d.0, d.1)

      pub collect_more : {i b' : Option ℕ} → i ≡ attribute_breach (attr_of doc x.attribute) → b' ≡ lesser b i → Collecting doc from x.end b'
      collect_more {i} {b'} k l =
          let d = rw e at c in
          record {
            since = omega (arith, g.since, d.onward.0);
            inside = d.onward.1;
            left = λ n xs r p f.
                let u = g.left n xs r p f in
                let v = gather_one u.0 (drop at doc) at (attr_of doc x.attribute) (drop x.end doc) x.end u.1 r p d.is u.2 in
                let y : lesser b (attributes_breach (attr_of doc x.attribute ∷ v.1)) ≡ lesser b' (attributes_breach v.1) =
                ap (lesser b) (more_breach (attr_of doc x.attribute) v.1) ∙ further (attributes_breach v.1) in
                (v.0, v.1, v.2, u.3 ∙ ap (λ (z : List Attr). lesser b (attributes_breach z)) v.3 ∙ y);
          }
        where
          further : (z : Option ℕ) → lesser b (lesser (attribute_breach (attr_of doc x.attribute)) z) ≡ lesser b' z
          further z = rw (← k, l) (sym (lesser_assoc b i z))

pub ruleset collecting = (collect_begins, collect_inside, collect_ended, collect_stands, collect_less, collect_more, rules)
