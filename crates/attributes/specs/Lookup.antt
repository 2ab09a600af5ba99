-- The first attribute of a kind, its value, and the values of a tag.
use Rattle.std.specs.Prelude.{ℕ, ◌+◌, ◌≡◌, List, [], ◌∷◌, Bool, true, false, ◌&&◌, leb, length}
use Rattle.std.proofs.Math.Option.{Option, none, some}
use Rattle.slices.specs.Bytes.{if, bytes, same}
use Rattle.document.specs.declared.Form.{Form}
use Rattle.document.specs.declared.Value.{Value}
use Rattle.document.specs.declared.Values.{Values}
use Rattle.attributes.specs.One.{part}
use Rattle.attributes.specs.declared.Attribute.{Attribute}
use Rattle.attributes.specs.declared.asked.Sought.{Sought}
use Rattle.attributes.specs.declared.asked.Sought.TheVariants.{Named, TpType}

-- the struct that stands for no attribute
abbrev pub blank : Attribute
blank = record { name = 0; name_len = 0; value = 0; value_len = 0; form = Form.Absent; tp = false; twin = true }

-- so many bytes from a place on lie within the document, and are of a kind
unfoldable pub part_is : (List ℕ → Bool) → List ℕ → ℕ → ℕ → Bool
part_is p doc at n = leb (at + n) (length doc) && p (part doc at n)

-- the name is of a kind
abbrev pub name_is : (List ℕ → Bool) → List ℕ → Attribute → Bool
name_is p doc a = part_is p doc a.name a.name_len

-- the name is a key
abbrev pub keyed : List ℕ → List ℕ → Bool
keyed key n = same n key

-- the attribute is a tp type
abbrev pub is_tp : Attribute → Bool
is_tp a = a.tp

-- what is asked of an attribute, by its name's place and length and whether it is a tp type: the key, or the tp type
abbrev pub wanted_at : Sought → List ℕ → ℕ → ℕ → Bool → Bool
wanted_at (Named key) doc at n tp = part_is (keyed key.now) doc at n
wanted_at TpType doc at n tp = tp

abbrev pub wanted : Sought → List ℕ → Attribute → Bool
wanted sought doc a = wanted_at sought doc a.name a.name_len a.tp

-- the first attribute that is asked for
unfoldable pub first_by : (Attribute → Bool) → List Attribute → Option Attribute
first_by p [] = none
first_by p (a ∷ xs) = let r = first_by p xs in if (p a) (some a) r

-- the value, absent where there is none
abbrev pub value_of : Option Attribute → Value
value_of none = record { at = 0; len = 0; form = Form.Absent }
value_of (some a) = record { at = a.value; len = a.value_len; form = a.form }

-- the value of the first attribute that is asked for
unfoldable pub value_in : (Attribute → Bool) → List Attribute → Value
value_in p xs = value_of (first_by p xs)

unfoldable pub values_in : List ℕ → List Attribute → Values
values_in doc xs = record {
  name = value_in (name_is (keyed (bytes "name")) doc) xs;
  ty = value_in (name_is (keyed (bytes "type")) doc) xs;
  value = value_in (name_is (keyed (bytes "value")) doc) xs;
  access = value_in (name_is (keyed (bytes "access")) doc) xs;
  direction = value_in (name_is (keyed (bytes "direction")) doc) xs;
  suffix = value_in (name_is (keyed (bytes "suffix")) doc) xs;
  tp = value_in is_tp xs;
}

-- what a lookup in the attributes says
pub record Picks (p : Attribute → Bool) (xs : List Attribute) (v : Value) : Type 0 where
  pub is : v ≡ value_in p xs

pub record PicksAll (doc : List ℕ) (xs : List Attribute) (v : Values) : Type 0 where
  pub is : v ≡ values_in doc xs
