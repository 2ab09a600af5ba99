-- The usual tag: the class of a name, which is the slot of its value, and the start of an attribute.
use Rattle.std.specs.Prelude.{ℕ, ◌+◌, ◌*◌, ◌≤◌, ◌<◌, ◌≡◌, List, true, length, drop, get_or}
use Rattle.slices.specs.Bytes.{if, bytes, other, span, past, all, same}
use Rattle.scan.specs.Classes.{name_byte}
use Rattle.document.specs.declared.Form.{Form}
use Rattle.document.specs.Tags.{Found, close_quote, attribute, is_tp_type}
use Rattle.attributes.specs.One.{part, Quotes}
use Rattle.attributes.specs.declared.Start.{Start}
use Rattle.attributes.specs.declared.Known.{Known}

-- the class of a name that is no tp type's: six names have one each, and all others have one together
abbrev pub key_class : List ℕ → ℕ
key_class n =
    if (same n (bytes "name")) 0
    (if (same n (bytes "type")) 1 (if (same n (bytes "value")) 2 (if (same n (bytes "access")) 3 (if (same n (bytes "direction")) 4 (if (same n (bytes "suffix")) 5 7)))))

-- the class of a name
unfoldable pub class_of : List ℕ → ℕ
class_of n = if (is_tp_type n) 6 (key_class n)

-- the attribute of a name whose value begins at p, after a quote q
abbrev pub valued : ℕ → List ℕ → ℕ → List ℕ → ℕ → Found
valued at n q l p = let v = span (other q) l in close_quote (record { at = at; name = n; valued = p; raw = v }) (past (other q) l) (p + length v)

-- an attribute from a place on, as far as its value: there are a place and a length of its name
pub record Opened (doc : List ℕ) (from : ℕ) (r : Start) : Type 0 where
  pub name : ℕ
  pub len : ℕ
  pub class : r.class ≡ class_of (part doc name len)
  pub before : name + len < r.value
  pub onward : from < r.value
  pub within : r.value ≤ length doc
  pub low : r.quote ≤ 39
  pub is : attribute (drop from doc) from ≡ valued name (part doc name len) r.quote (drop r.value doc) r.value

-- four bytes as a number
pub record Four (s : List ℕ) (at r : ℕ) : Type 0 where
  pub is : r ≡ get_or s at 0 + 256 * get_or s (at + 1) 0 + 65536 * get_or s (at + 2) 0 + 16777216 * get_or s (at + 3) 0
  pub first : get_or s at 0 < 256
  pub second : get_or s (at + 1) 0 < 256
  pub third : get_or s (at + 2) 0 < 256
  pub fourth : get_or s (at + 3) 0 < 256

-- so many bytes from a place on that may stand in a name, and their class
pub record Key (doc : List ℕ) (at : ℕ) (r : Known) : Type 0 where
  pub some : 0 < r.len
  pub short : r.len ≤ 9
  pub bytes : all name_byte (part doc at r.len) ≡ true
  pub class : r.class ≡ class_of (part doc at r.len)

-- the first k bytes from a place on are above quotes and special bytes, and there is one more where k is below 8
pub record High (doc : List ℕ) (at k : ℕ) : Type 0 where
  pub within : at + k ≤ length doc
  pub above : (i : ℕ) → i < k → 40 ≤ get_or doc (at + i) 0
  pub room : k < 8 → at + k < length doc

-- the end of a value that is shown as it stands
pub record Plain (q : ℕ) (doc : List ℕ) (from r : ℕ) : Type 0 where
  pub value : Quotes q doc from (record { end = r; form = Form.Plain })
