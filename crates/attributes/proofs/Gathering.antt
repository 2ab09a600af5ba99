-- The attributes of a tag, gathered.
use Prim.Native.Nat.{ℕ, zero, suc, ◌+◌, ◌-◌, ◌≤◌, ◌<◌}
use mathlib.Core.Path.{◌≡◌, refl, sym, ap, ◌∙◌}
use mathlib.Core.Bool.{Bool, true, false}
use mathlib.Core.List.{List, [], ◌∷◌, ◌++◌, map-append}
use borrow.Author.Rules.{rules}
use native.Mathlib.Numerals.{add-one}
use native.Mathlib.Omega.{arith}
use lib.ListN.{length, take, drop, get_or, set, length-set}
use lib.Seq.{length-take-le, get_or-take, take-take, take-suc-set, take-set-le, get_or-set_same, get_or-set_other}
use native.Mathlib.Decide.{dec_lt}
use Rattle.std.specs.Prelude.{Result, Ok, Option, Some, None, Err}
use Rattle.document.specs.Tags.{Attr, absent, attribute, Gathered, gathered, too_many, with, gather}
use Rattle.attributes.specs.One.{attr_of, Fit, Finds}
use Rattle.attributes.specs.Lookup.{blank}
use Rattle.attributes.specs.Outcome.{Fitted, Fresh, Checkable, attrs_of, listed, Finishes, Gathers}
use Rattle.attributes.specs.Twins.{mark}
use Rattle.attributes.specs.declared.Attribute.{Attribute}
use Rattle.attributes.proofs.Found.{fit_wide}
use Rattle.attributes.proofs.Picked.{values_fit, values_are}
use Rattle.faults.specs.declared.Fault.{Fault}
use Rattle.attributes.specs.declared.Located.{Located}
use Rattle.attributes.specs.declared.TagValues.{TagValues}

-- ---- the loop

-- attributes before what is gathered
abbrev pub extend : List Attr → Gathered → Gathered
extend [] g = g
extend (x ∷ xs) g = with x (extend xs g)

extend_with : (xs : List Attr) (x : Attr) (g : Gathered) → extend xs (with x g) ≡ extend (xs ++ x ∷ []) g
extend_with [] x g = refl
extend_with (y ∷ xs) x g = ap (with y) (extend_with xs x g)

extend_all : (xs : List Attr) (l : List ℕ) (p : ℕ) → extend xs (gathered [] l p) ≡ gathered xs l p
extend_all [] l p = refl
extend_all (x ∷ xs) l p = ap (with x) (extend_all xs l p)

extend_many : (xs : List Attr) (p : ℕ) → extend xs (too_many p) ≡ too_many p
extend_many [] p = refl
extend_many (x ∷ xs) p = ap (with x) (extend_many xs p)

-- what gathering comes to where there is no attribute
pub gather_none : (n : ℕ) (l : List ℕ) (at : ℕ) → attribute l at ≡ absent → gather n l at ≡ gathered [] l at
unfolding gather
gather_none zero l at e = rw e
gather_none (suc n) l at e = rw e

-- ---- the marks

pub fresh_none : {doc : List ℕ} {xs : List Attribute} → Fresh doc xs 0
fresh_none = record { rule = λ k b. absurd (omega arith) }

pub fresh_more : {doc : List ℕ} {xs : List Attribute} {n : ℕ} → Fresh doc xs n → (b : Attribute) → n < length xs → (b.twin ≡ false → listed (attr_of doc b).name (attrs_of doc xs n) ≡ false) → Fresh doc (set xs n b) (n + 1)
fresh_more {doc} {xs} {n} f b h new = record { rule = λ j l. go j (dec_lt j n) (omega arith) }
  where
    go : (j : ℕ) → Dec (j < n) → j < n + 1 → (get_or (set xs n b) j blank).twin ≡ false → listed (attr_of doc (get_or (set xs n b) j blank)).name (attrs_of doc (set xs n b) j) ≡ false
    go j (yes l) k = rw (get_or-set_other xs n j b blank (omega arith), take-set-le j xs n b (omega arith)) (f.rule j l)
    go j (no l) k =
        let q : j ≡ n = omega arith in
        rw (q, get_or-set_same xs n b blank h, take-set-le n xs n b (omega arith)) new

-- gathering into an array of m that stands at at: what was asked is what is asked from here on, after the first n
pub record Gathering (m : ℕ) (doc : List ℕ) (from : ℕ) (xs : List Attribute) (n at : ℕ) : Type 0 where
  pub left : gather 256 (drop from doc) from ≡ extend (attrs_of doc xs n) (gather (256 - n) (drop at doc) at)
  pub fitted : Fitted doc from at xs n
  pub long : length xs ≡ m
  pub many : n ≤ m
  pub since : from ≤ at
  pub inside : at ≤ length doc

pub gather_begins : {m : ℕ} {doc : List ℕ} {from : ℕ} {xs : List Attribute} → from ≤ length doc → length xs ≡ m → Gathering m doc from xs 0 from
gather_begins h l = record {
  left = refl;
  fitted = record { rule = λ k b. absurd (omega arith) };
  long = l;
  many = omega arith;
  since = omega arith;
  inside = h;
}

module _ {m : ℕ} {doc : List ℕ} {from : ℕ} {xs : List Attribute} {n at : ℕ} (g : Gathering m doc from xs n at) where
  pub gather_inside : at ≤ length doc
  gather_inside = g.inside

  -- those gathered, as the slice that is lent
  pub gather_checkable : length doc ≤ 1048576 → Fresh doc xs n → Checkable doc (take n xs)
  gather_checkable s f = record {
    small = s;
    fitted = record { rule = λ k b. let q : k < n = omega (arith, long) in rw (get_or-take n xs k blank q) (fit_wide (omega arith) g.inside (g.fitted.rule k q)) };
    fresh = record { rule = λ k b. let q : k < n = omega (arith, long) in rw (get_or-take n xs k blank q, take-take k n xs (omega arith)) (f.rule k q) };
  }
    where
      long : length (take n xs) ≡ n
      long = length-take-le n xs (omega (arith, g.long, g.many))

  module _ {o : Option Located} (c : Finds attribute doc at o) where
    pub gather_ends : {r : Result TagValues Fault} → o ≡ None → Finishes doc (take n xs) at r → Gathers doc from r
    gather_ends {r} e d = go r d
      where
        all : gather 256 (drop from doc) from ≡ gathered (attrs_of doc xs n) (drop at doc) at
        all = g.left ∙ rw (gather_none (256 - n) (drop at doc) at (rw e at c).is, extend_all)

        go : (r : Result TagValues Fault) → Finishes doc (take n xs) at r → Gathers doc from r
        go (Err f) d = record { onward = tt; is = λ q name. rw (all, d.is) }
        go (Ok x) d =
            rw (d.is.2, d.is.3) record {
              onward = (g.since, g.inside, values_fit g.fitted (omega (arith, g.long, g.many)) g.inside g.since);
              is = (d.is.0, values_are g.fitted (omega (arith, g.long, g.many)) g.inside d.is.1, λ q name. rw (all, d.is.1));
            }

    module _ {x : Located} (e : o ≡ Some x) where
      pub gather_full : {f : Fault} → m ≡ 256 → 256 ≤ n → f ≡ record { number = 17; place = x.attribute.name } → Gathers doc from (Err f)
      unfolding gather
      gather_full k h q =
          let z : 256 - n ≡ 0 = omega arith in
          rw q record { onward = tt; is = λ q name. rw (g.left, z, (rw e at c).is, extend_many) }

      pub gather_less : length doc - x.end < length doc - at
      gather_less = let d = (rw e at c).onward in omega (arith, d.0, d.1)

      -- the place of the name
      pub gather_named : x.attribute.name + x.attribute.name_len ≤ length doc
      gather_named = let d = (rw e at c).onward in omega (arith, d.1, d.2.name)

      step : (t : Bool) → n < m → m ≤ 256 → gather 256 (drop from doc) from ≡ extend (attrs_of doc (set xs n (mark x.attribute t)) (n + 1)) (gather (256 - (n + 1)) (drop x.end doc) x.end)
      unfolding gather
      step t h k =
          let z : 256 - n ≡ suc (256 - suc n) = omega arith in
          let b : n < length xs = omega (arith, g.long) in
          g.left ∙ rw (z, (rw e at c).is, extend_with, add-one, take-suc-set xs n (mark x.attribute t) b, map-append)

      -- whatever its mark
      pub gather_marked : (t : Bool) → n < m → m ≤ 256 → Gathering m doc from (set xs n (mark x.attribute t)) (n + 1) x.end
      gather_marked t h k =
          let d = rw e at c in
          record {
            left = step t h k;
            fitted = record { rule = λ j b. fit j (dec_lt j n) (omega arith) };
            long = length-set xs n (mark x.attribute t) ∙ g.long;
            many = omega arith;
            since = omega (arith, g.since, d.onward.0);
            inside = d.onward.1;
          }
        where
          same : Fit doc at x.end x.attribute → Fit doc at x.end (mark x.attribute t)
          same f = record { name = f.name; value = f.value; short = f.short; form = f.form; tp = f.tp }

          fit : (j : ℕ) → Dec (j < n) → j < n + 1 → Fit doc from x.end (get_or (set xs n (mark x.attribute t)) j blank)
          fit j (yes l) b =
              let d = (rw e at c).onward in
              rw (get_or-set_other xs n j (mark x.attribute t) blank (omega arith)) (fit_wide (omega arith) (omega (arith, d.0)) (g.fitted.rule j l))
          fit j (no l) b =
              let q : j ≡ n = omega arith in
              rw (q, get_or-set_same xs n (mark x.attribute t) blank (omega (arith, g.long))) (fit_wide g.since (omega arith) (same (rw e at c).onward.2))

      pub gather_more : n < m → m ≤ 256 → Gathering m doc from (set xs n x.attribute) (n + 1) x.end
      gather_more h k = gather_marked x.attribute.twin h k

      pub gather_fresh : n < m → Fresh doc xs n → Fresh doc (set xs n x.attribute) (n + 1)
      gather_fresh h f = fresh_more f x.attribute (omega (arith, g.long)) (λ t. let w : true ≡ false = sym (rw e at c).onward.3 ∙ t in let z : ◌≡◌ {A = ℕ} 0 1 = cc in absurd (omega arith))

pub ruleset gathers = (gather_begins, gather_inside, gather_checkable, gather_ends, gather_full, gather_less, gather_more, fresh_none, gather_fresh, rules)
