-- The tokens of a document (docs/FORMAT.md, Tags): what is ignorable is passed over; then comes a start tag, a closing
-- tag, a fault or the end.
use Rattle.std.specs.Prelude.{ℕ, zero, suc, ◌+◌, ◌-◌, List, [], ◌∷◌, Bool, true, false, eqb, length, drop, Result, Ok, Err}
use Rattle.faults.specs.declared.Fault.{Fault}
use Rattle.slices.specs.Bytes.{if, span, past, empty}
use Rattle.scan.specs.Classes.{white, name_byte}
use Rattle.scan.specs.Ignorable.{ignorable}
use Rattle.document.specs.Tags.{Gathered, gathered, too_many, gather, Shown, Checked, check}

-- a start tag: place of `<`, name, attributes, whether it is `/>`, place after the tag
pub record Tag : Type 0 where
  pub at : ℕ
  pub name : List ℕ
  pub attrs : List Shown
  pub self : Bool
  pub after : ℕ

-- a closing tag has the place of `<`, the name and the place after the tag
pub data Token : Type 0 where
  start : Tag → Token
  close : ℕ → List ℕ → ℕ → Token
  fault : ℕ → ℕ → Token
  end : ℕ → Token

-- a token and the place after it; or one after which nothing is read
pub data Next : Type 0 where
  more : Token → ℕ → Next
  last : Token → Next

abbrev pub tagged : ℕ → List ℕ → List Shown → Bool → ℕ → Next
tagged at n xs s p = more (start (record { at = at; name = n; attrs = xs; self = s; after = p })) p

-- `/>` or `>`, else the fault where the tag's end was wanted
abbrev pub slash_end : ℕ → List ℕ → List Shown → List ℕ → ℕ → Next
slash_end at n xs [] p = last (fault 4 p)
slash_end at n xs (b ∷ l) p = let r = tagged at n xs true (suc (suc p)) in if (eqb b 62) r (last (fault 4 p))

abbrev pub tag_end : ℕ → List ℕ → List Shown → List ℕ → ℕ → Next
tag_end at n xs [] p = last (fault 4 p)
tag_end at n xs (b ∷ l) p =
    let r = tagged at n xs false (suc p) in
    let s = slash_end at n xs l p in
    if (eqb b 62) r (if (eqb b 47) s (last (fault 4 p)))

abbrev pub with_shown : ℕ → List ℕ → Checked → List ℕ → ℕ → Next
with_shown at n (Checked.fault k q) l p = last (fault k q)
with_shown at n (Checked.good xs) l p = tag_end at n xs (past white l) (p + length (span white l))

abbrev pub with_attrs : ℕ → List ℕ → Gathered → Next
with_attrs at n (gathered xs l p) = with_shown at n (check [] xs) l p
with_attrs at n (too_many p) = last (fault 17 p)

-- after `<`, whose place is given
unfoldable pub opening : List ℕ → ℕ → Next
opening l at =
    let n = span name_byte l in
    let r = with_attrs at n (gather 256 (past name_byte l) (suc at + length n)) in
    if (empty n) (last (fault 4 (suc at))) r

abbrev pub close_end : ℕ → List ℕ → List ℕ → ℕ → Next
close_end at n [] p = last (fault 4 (suc at))
close_end at n (b ∷ l) p = let r = more (close at n (suc p)) (suc p) in if (eqb b 62) r (last (fault 4 (suc at)))

-- after `</`, whose place is given: a name, white space, `>`
unfoldable pub closing : List ℕ → ℕ → Next
closing l at =
    let n = span name_byte l in
    let m = past name_byte l in
    let r = close_end at n (past white m) (suc (suc at) + length n + length (span white m)) in
    if (empty n) (last (fault 4 (suc at))) r

-- after `<`
abbrev pub tag : List ℕ → ℕ → Next
tag [] at = last (fault 4 (suc at))
tag (b ∷ l) at =
    let c = closing l at in
    let o = opening (b ∷ l) at in
    if (eqb b 47) c o

-- at the `<` of a tag, or at the end
abbrev pub tag_or_end : List ℕ → ℕ → Next
tag_or_end [] p = last (end p)
tag_or_end (b ∷ l) p = tag l p

abbrev pub past_ignorable : Result ℕ Fault → List ℕ → ℕ → Next
past_ignorable (Err f) l at = last (fault f.number f.place)
past_ignorable (Ok p) l at = tag_or_end (drop (p - at) l) p

unfoldable pub next : List ℕ → ℕ → Next
next l at = past_ignorable (ignorable l at) l at

abbrev pub joined : Next → (ℕ → List Token) → List Token
joined (more t p) k = t ∷ k p
joined (last t) k = t ∷ []

-- the tokens of what is left from a place on, when so many bytes are taken already
abbrev pub tokens_from : ℕ → List ℕ → ℕ → List Token
tokens_from k [] at = end at ∷ []
tokens_from zero (b ∷ l) at = joined (next (b ∷ l) at) (λ p. tokens_from (p - suc at) l (suc at))
tokens_from (suc k) (b ∷ l) at = tokens_from k l (suc at)

unfoldable pub tokens : List ℕ → ℕ → List Token
tokens l at = tokens_from 0 l at
