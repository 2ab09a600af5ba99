-- The marks of many attributes: hashes of names, and the table of entries that are taken.
use Prim.Native.Nat.{ℕ, suc, ◌+◌, ◌-◌, ◌%◌, ◌≤◌, ◌<◌}
use mathlib.Core.Path.{◌≡◌, refl, sym, ap, ◌∙◌}
use mathlib.Core.List.{List, [], ◌∷◌, map}
use mathlib.Core.Bool.{Bool, true, false}
use borrow.Author.Rules.{rules}
use native.Mathlib.Omega.{arith}
use native.Mathlib.Decide.{dec_lt}
use lib.Dec.{eqb}
use borrow.Author.Tests.{eqb-true, eqb-false}
use lib.ListN.{length, take, drop, get_or, set, length-set}
use lib.Seq.{length-take-le, get_or-take, get_or-set_same, get_or-set_other}
use Rattle.std.specs.Prelude.{Option, Some}
use Rattle.slices.specs.Bytes.{if, same}
use Rattle.slices.proofs.Runs.{same_equal}
use Rattle.document.specs.Tags.{attribute}
use Rattle.attributes.specs.One.{attr_of, Finds}
use Rattle.attributes.specs.Lookup.{blank}
use Rattle.slices.specs.Hash.{HashIs}
use Rattle.attributes.specs.Twins.{entry_of, EntryIs, mark}
use Rattle.attributes.specs.Outcome.{Fresh, attrs_of, listed}
use Rattle.attributes.specs.declared.Attribute.{Attribute}
use Rattle.attributes.proofs.Gathering.{Gathering, fresh_none, fresh_more, gather_begins, gather_named, gather_marked, gathers}
use Rattle.attributes.specs.declared.Located.{Located}

pub entry_is : {doc : List ℕ} {at n h : ℕ} → HashIs (take ((at + n) - at) (drop at doc)) h → EntryIs doc at n (h % 4096)
unfolding entry_of
entry_is {doc} {at} {n} {h} b =
    let m : (at + n) - at ≡ n = omega arith in
    record { is = ap (λ (x : ℕ). x % 4096) (rw m at b).is; below = omega arith }

pub ruleset entries = (entry_is, rules)

-- ---- the table

-- the entries of the names of the first n are taken
pub record Taken (doc : List ℕ) (xs : List Attribute) (n : ℕ) (seen : List Bool) : Type 0 where
  pub long : length seen ≡ 4096
  pub rule : (k : ℕ) → k < n → get_or seen (entry_of (attr_of doc (get_or xs k blank)).name) false ≡ true

-- a name whose entry is not taken is not listed
unlisted : (doc : List ℕ) (seen : List Bool) (n : List ℕ) (ys : List Attribute) → ((k : ℕ) → k < length ys → get_or seen (entry_of (attr_of doc (get_or ys k blank)).name) false ≡ true) → get_or seen (entry_of n) false ≡ false → listed n (map (attr_of doc) ys) ≡ false
unlisted doc seen n [] h e = refl
unlisted doc seen n (y ∷ ys) h e = go (same (attr_of doc y).name n) refl (unlisted doc seen n ys (λ k l. h (suc k) (omega arith)) e)
  where
    go : (s : Bool) → same (attr_of doc y).name n ≡ s → listed n (map (attr_of doc) ys) ≡ false → if s true (listed n (map (attr_of doc) ys)) ≡ false
    go true q r =
        let w : true ≡ false = sym (h 0 (omega arith)) ∙ rw (same_equal (attr_of doc y).name n q) e in
        let z : ◌≡◌ {A = ℕ} 0 1 = cc in
        absurd (omega arith)
    go false q r = r

-- gathering into an array of 256 that stands at at, with the table
pub record Marking (doc : List ℕ) (from : ℕ) (xs : List Attribute) (seen : List Bool) (n at : ℕ) : Type 0 where
  pub so : Gathering 256 doc from xs n at
  pub fresh : Fresh doc xs n
  pub taken : Taken doc xs n seen

pub mark_begins : {doc : List ℕ} {from : ℕ} {xs : List Attribute} {seen : List Bool} → from ≤ length doc → length xs ≡ 256 → length seen ≡ 4096 → Marking doc from xs seen 0 from
mark_begins h l s = record {
  so = gather_begins h l;
  fresh = fresh_none;
  taken = record { long = s; rule = λ k b. absurd (omega arith) };
}

module _ {doc : List ℕ} {from : ℕ} {xs : List Attribute} {seen : List Bool} {n at : ℕ} (g : Marking doc from xs seen n at) where
  pub mark_room : {p l e : ℕ} → EntryIs doc p l e → e < length seen
  mark_room i = omega (arith, i.below, g.taken.long)

  module _ {o : Option Located} (c : Finds attribute doc at o) {x : Located} (e : o ≡ Some x) {k : ℕ} (i : EntryIs doc x.attribute.name x.attribute.name_len k) where
    pub mark_more : n < 256 → {b : Attribute} → b ≡ mark x.attribute (get_or seen k false) → Marking doc from (set xs n b) (set seen k true) (n + 1) x.end
    mark_more h q = rw q record {
      so = gather_marked g.so c e (get_or seen k false) h (omega arith);
      fresh = fresh_more g.fresh (mark x.attribute (get_or seen k false)) within new;
      taken = record { long = length-set seen k true ∙ g.taken.long; rule = λ j l. at_name j (dec_lt j n) (omega arith) };
    }
      where
        within : n < length xs
        within = omega (arith, g.so.long)

        new : get_or seen k false ≡ false → listed (attr_of doc x.attribute).name (attrs_of doc xs n) ≡ false
        new f =
            let l : length (take n xs) ≡ n = length-take-le n xs (omega arith) in
            unlisted doc seen (attr_of doc x.attribute).name (take n xs) (λ j b. rw (get_or-take n xs j blank (omega arith)) (g.taken.rule j (omega arith))) (rw i.is at f)

        -- an entry that was taken is taken
        kept : (x : ℕ) → get_or seen x false ≡ true → get_or (set seen k true) x false ≡ true
        kept x f = go (eqb x k) refl
          where
            go : (t : Bool) → eqb x k ≡ t → get_or (set seen k true) x false ≡ true
            go true q = rw (eqb-true x k q) (get_or-set_same seen k true false (omega (arith, i.below, g.taken.long)))
            go false q = rw (get_or-set_other seen k x true false (eqb-false x k q)) f

        at_name : (j : ℕ) → Dec (j < n) → j < n + 1 → get_or (set seen k true) (entry_of (attr_of doc (get_or (set xs n (mark x.attribute (get_or seen k false))) j blank)).name) false ≡ true
        at_name j (yes l) b = rw (get_or-set_other xs n j (mark x.attribute (get_or seen k false)) blank (omega arith)) (kept _ (g.taken.rule j l))
        at_name j (no l) b =
            let q : j ≡ n = omega arith in
            rw (q, get_or-set_same xs n (mark x.attribute (get_or seen k false)) blank within, ← i.is) (get_or-set_same seen k true false (omega (arith, i.below, g.taken.long)))

pub ruleset marks = (gather_named, mark_room, mark_more, gathers)
