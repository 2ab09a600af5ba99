-- What stands in a tag (docs/FORMAT.md, Tags): well-formed attributes are gathered first; then, one by one, duplicate
-- before reference. Each function has what is left of the document and the place where that begins.
use Rattle.std.specs.Prelude.{ℕ, zero, suc, ◌+◌, List, [], ◌∷◌, Bool, true, false, not, ◌&&◌, eqb, length}
use Rattle.std.proofs.Math.Option.{Option, none, some}
use Rattle.slices.specs.Bytes.{if, bytes, other, span, past, empty, same}
use Rattle.scan.specs.Classes.{white, name_byte}
use Rattle.scan.specs.Ignorable.{quote}
use Rattle.answers.specs.Text.{Text, text, wrong}
use Rattle.references.specs.Unescape.{unescape}

-- an attribute as it stands: its name's place and bytes, its value's place and raw bytes
pub record Attr : Type 0 where
  pub at : ℕ
  pub name : List ℕ
  pub valued : ℕ
  pub raw : List ℕ

-- an attribute, what follows it, and the place there
pub data Found : Type 0 where
  absent : Found
  found : Attr → List ℕ → ℕ → Found

abbrev pub close_quote : Attr → List ℕ → ℕ → Found
close_quote a [] p = absent
close_quote a (b ∷ l) p = found a l (suc p)

abbrev pub open_quote : ℕ → List ℕ → List ℕ → ℕ → Found
open_quote at n [] p = absent
open_quote at n (q ∷ l) p =
    let v = span (other q) l in
    let r = close_quote (record { at = at; name = n; valued = suc p; raw = v }) (past (other q) l) (suc p + length v) in
    if (quote q) r absent

abbrev pub equals : ℕ → List ℕ → List ℕ → ℕ → Found
equals at n [] p = absent
equals at n (b ∷ l) p = let r = open_quote at n (past white l) (suc p + length (span white l)) in if (eqb b 61) r absent

abbrev pub named : ℕ → List ℕ → List ℕ → ℕ → Found
named at n l p = let r = equals at n (past white l) (p + length (span white l)) in if (empty n) absent r

abbrev pub spaced : List ℕ → List ℕ → ℕ → Found
spaced w l at =
    let r = named at (span name_byte l) (past name_byte l) (at + length (span name_byte l)) in
    if (empty w) absent r

-- white space, name, white space, `=`, white space, value in quotes
unfoldable pub attribute : List ℕ → ℕ → Found
attribute l at = spaced (span white l) (past white l) (at + length (span white l))

-- the attributes of a tag, what follows them, and the place there; or the place of one too many
pub data Gathered : Type 0 where
  gathered : List Attr → List ℕ → ℕ → Gathered
  too_many : ℕ → Gathered

abbrev pub with : Attr → Gathered → Gathered
with a (gathered xs l p) = gathered (a ∷ xs) l p
with a (too_many p) = too_many p

abbrev pub another : Found → List ℕ → ℕ → (List ℕ → ℕ → Gathered) → Gathered
another absent l at k = gathered [] l at
another (found a l' p) l at k = with a (k l' p)

abbrev pub no_more : Found → List ℕ → ℕ → Gathered
no_more absent l at = gathered [] l at
no_more (found a l' p) l at = too_many a.at

-- as many as are well formed, but no more than n
unfoldable pub gather : ℕ → List ℕ → ℕ → Gathered
gather zero l at = no_more (attribute l at) l at
gather (suc n) l at = another (attribute l at) l at (λ l' p. gather n l' p)

-- an attribute and the text that its value shows
pub record Shown : Type 0 where
  pub attr : Attr
  pub value : List ℕ

pub data Checked : Type 0 where
  good : List Shown → Checked
  fault : ℕ → ℕ → Checked

-- a fault's place in the value becomes one in the document
abbrev pub also : Attr → Text → Checked → Checked
also a (wrong n p) c = fault n (a.valued + p)
also a (text t) (good s) = good (record { attr = a; value = t } ∷ s)
also a (text t) (fault n p) = fault n p

abbrev pub member : List ℕ → List (List ℕ) → Bool
member n [] = false
member n (m ∷ ms) = let r = member n ms in if (same n m) true r

-- one by one, when names have been seen
abbrev pub check : List (List ℕ) → List Attr → Checked
check seen [] = good []
check seen (a ∷ xs) =
    let r = also a (unescape a.raw) (check (a.name ∷ seen) xs) in
    if (member a.name seen) (fault 8 a.at) r

-- the first attribute of a name
abbrev pub lookup : List ℕ → List Shown → Option Shown
lookup key [] = none
lookup key (s ∷ ss) = let r = lookup key ss in if (same s.attr.name key) (some s) r

-- a nonempty prefix, the first colon (58), then exactly `type`
abbrev pub is_tp_type : List ℕ → Bool
is_tp_type n = not (empty (span (other 58) n)) && same (past (other 58) n) (bytes ":type")

-- the first attribute that is a tp type
abbrev pub tp_type : List Shown → Option Shown
tp_type [] = none
tp_type (s ∷ ss) = let r = tp_type ss in if (is_tp_type s.attr.name) (some s) r
