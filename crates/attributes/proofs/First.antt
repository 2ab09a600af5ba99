-- The first attribute that is asked for, and its value.
use Prim.Native.Nat.{ℕ, ◌+◌, ◌≤◌, ◌<◌}
use mathlib.Core.Path.{◌≡◌, refl, sym, ap, ◌∙◌}
use mathlib.Core.List.{List}
use mathlib.Core.Option.{none, some}
use mathlib.Core.Bool.{Bool, true, false}
use borrow.Author.Rules.{rules}
use native.Mathlib.Numerals.{add-one}
use lib.ListN.{length, drop, get_or, drop_of_length-le}
use lib.Seq.{drop-cons}
use Rattle.slices.specs.Bytes.{bytes}
use Rattle.document.specs.declared.Form.{Form}
use Rattle.document.specs.declared.Value.{Value}
use Rattle.attributes.specs.Lookup.{name_is, keyed, is_tp, first_by, value_of, value_in, values_in, Picks, PicksAll}
use Rattle.attributes.specs.declared.Attribute.{Attribute}

-- ---- a loop: the first that is asked for is the first of those from a place on

pub record Seeking (p : Attribute → Bool) (xs : List Attribute) (i : ℕ) : Type 0 where
  pub rest : first_by p xs ≡ first_by p (drop i xs)

pub seek_begins : {p : Attribute → Bool} {xs : List Attribute} → Seeking p xs 0
seek_begins = record { rest = refl }

module _ {p : Attribute → Bool} {xs : List Attribute} {i : ℕ} (t : Seeking p xs i) where
  module _ (h : i < length xs) (d : Attribute) {r : Bool} (e : r ≡ p (get_or xs i d)) where
    pub seek_hit : r ≡ true → Picks p xs (record { at = (get_or xs i d).value; len = (get_or xs i d).value_len; form = (get_or xs i d).form })
    unfolding value_in first_by
    seek_hit f =
        let q : first_by p xs ≡ some (get_or xs i d) = t.rest ∙ rw (drop-cons xs i d h, sym e ∙ f) in
        record { is = ap value_of (sym q) }

    pub seek_more : r ≡ false → Seeking p xs (i + 1)
    unfolding first_by
    seek_more f = record { rest = t.rest ∙ rw (drop-cons xs i d h, sym e ∙ f, add-one) }

  pub seek_ends : length xs ≤ i → Picks p xs (record { at = 0; len = 0; form = Form.Absent })
  unfolding value_in first_by
  seek_ends h =
      let q : first_by p xs ≡ none = t.rest ∙ rw (drop_of_length-le xs h) in
      record { is = ap value_of (sym q) }

-- what answers every need of `first_named`
pub ruleset seeking = (seek_begins, seek_hit, seek_more, seek_ends, rules)

-- ---- the seven values

abbrev named : List ℕ → List ℕ → Attribute → Bool
named key doc a = name_is (keyed key) doc a

module _ {doc : List ℕ} {xs : List Attribute} where
  pub all_values : {a b c d e f g : Value} → Picks (named (bytes "name") doc) xs a → Picks (named (bytes "type") doc) xs b → Picks (named (bytes "value") doc) xs c → Picks (named (bytes "access") doc) xs d → Picks (named (bytes "direction") doc) xs e → Picks (named (bytes "suffix") doc) xs f → Picks is_tp xs g → PicksAll doc xs (record { name = a; ty = b; value = c; access = d; direction = e; suffix = f; tp = g })
  unfolding values_in
  all_values a b c d e f g = record { is = rw (a.is, b.is, c.is, d.is, e.is, f.is, g.is) }
