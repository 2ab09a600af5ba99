-- The entry of a name in a table: equal names have equal entries. An attribute with another mark.
use Rattle.std.specs.Prelude.{ℕ, ◌%◌, ◌<◌, ◌≡◌, List, Bool}
use Rattle.slices.specs.Hash.{hash_of}
use Rattle.attributes.specs.One.{part}
use Rattle.attributes.specs.declared.Attribute.{Attribute}

-- the entry of a name, by its hash, of 4096
unfoldable pub entry_of : List ℕ → ℕ
entry_of s = hash_of s % 4096

-- r is the entry of the name that is n bytes from a place on
pub record EntryIs (doc : List ℕ) (at n r : ℕ) : Type 0 where
  pub is : r ≡ entry_of (part doc at n)
  pub below : r < 4096

-- the attribute with another mark
abbrev pub mark : Attribute → Bool → Attribute
mark a t = record {
  name = a.name;
  name_len = a.name_len;
  value = a.value;
  value_len = a.value_len;
  form = a.form;
  tp = a.tp;
  twin = t;
}
