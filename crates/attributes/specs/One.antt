-- One attribute: what the struct stands for, and what looking for one at a place says.
use Rattle.std.specs.Prelude.{ℕ, ◌+◌, ◌≤◌, ◌<◌, ◌≡◌, List, Bool, true, length, take, drop, Option, Some, None}
use Rattle.slices.specs.Bytes.{if, other, span, all}
use Rattle.slices.specs.Run.{Run}
use Rattle.references.specs.Unescape.{plain}
use Rattle.document.specs.declared.Form.{Form}
use Rattle.document.specs.Tags.{Attr, Found, absent, found, is_tp_type}
use Rattle.attributes.specs.declared.Attribute.{Attribute}
use Rattle.attributes.specs.declared.ValueEnd.{ValueEnd}
use Rattle.attributes.specs.declared.Located.{Located}

-- so many bytes from a place on
abbrev pub part : List ℕ → ℕ → ℕ → List ℕ
part doc at n = take n (drop at doc)

-- the attribute that the struct stands for
abbrev pub attr_of : List ℕ → Attribute → Attr
attr_of doc a = record {
  at = a.name;
  name = part doc a.name a.name_len;
  valued = a.value;
  raw = part doc a.value a.value_len;
}

-- as they stand where all bytes are plain, else changed; k in place of the first where bytes came before
abbrev pub form_from : Form → List ℕ → Form
form_from k v = if (all plain v) k Form.Changed

-- the struct's places end before the second place, its value is no longer than what is between the two, and its form and its flag are right
pub record Fit (doc : List ℕ) (from to : ℕ) (a : Attribute) : Type 0 where
  pub name : a.name + a.name_len ≤ to
  pub value : a.value + a.value_len ≤ to
  pub short : from + a.value_len ≤ to
  pub form : a.form ≡ form_from Form.Plain (part doc a.value a.value_len)
  pub tp : a.tp ≡ is_tp_type (part doc a.name a.name_len)

-- the end of a value that begins at a place, which a quote closes
pub record Quotes (q : ℕ) (doc : List ℕ) (from : ℕ) (r : ValueEnd) : Type 0 where
  pub closed : r.end < length doc
  pub run : Run (other q) doc from r.end
  pub form : r.form ≡ form_from Form.Plain (span (other q) (drop from doc))

-- a name stands before a place of a document within the limit, and is a tp type's or not
pub record Named (doc : List ℕ) (name n : ℕ) (tp : Bool) (at : ℕ) : Type 0 where
  pub small : length doc ≤ 1048576
  pub inside : at ≤ length doc
  pub before : name + n ≤ at
  pub type : tp ≡ is_tp_type (part doc name n)

abbrev pub Onward : List ℕ → ℕ → Option Located → Type 0
Onward doc from None = Unit {0}
Onward doc from (Some x) = (from < x.end) × (x.end ≤ length doc) × Fit doc from x.end x.attribute × (x.attribute.twin ≡ true)

abbrev pub IsFound : (List ℕ → ℕ → Found) → List ℕ → ℕ → Option Located → Type 0
IsFound f doc from None = f (drop from doc) from ≡ absent
IsFound f doc from (Some x) = f (drop from doc) from ≡ found (attr_of doc x.attribute) (drop x.end doc) x.end

-- what looking for an attribute from a place on says, by a definition
pub record Finds (f : List ℕ → ℕ → Found) (doc : List ℕ) (from : ℕ) (r : Option Located) : Type 0 where
  pub onward : Onward doc from r
  pub is : IsFound f doc from r
