-- The strict profile (docs/FORMAT.md, The strict profile): the breaches of a document that is accepted, rule by rule, by the productions of
-- XML 1.0, fifth edition.
use Rattle.std.specs.Prelude.{ℕ, suc, ◌+◌, List, [], ◌∷◌, ◌++◌, map, Bool, ltb, length, take, drop}
use Rattle.slices.specs.Bytes.{if, bytes, same, starts}
use Rattle.document.specs.Tags.{Attr}
use Rattle.document.specs.Tokens.{Tag}
use Rattle.profile.specs.Places.{first_place}
use Rattle.profile.specs.Profile.{char_fault, name_fault, hyphens, raw}
use Rattle.profile.specs.After.{after_fault}
use Rattle.met.specs.Met.{met_tags, met_comments, root_end}

-- every place from one on where what is left of the bytes is as told
abbrev pub places_of : (List ℕ → Bool) → List ℕ → ℕ → List ℕ
places_of p [] at = []
places_of p (b ∷ l) at = let r = places_of p l (suc at) in if (p (b ∷ l)) (at ∷ r) r

-- the place of a fault in n bytes that begin at a place; a fault at n is none
abbrev pub fault_at : ℕ → ℕ → ℕ → List ℕ
fault_at at f n = if (ltb f n) ((at + f) ∷ []) []

abbrev pub attrs_of : Tag → List Attr
attrs_of t = map (λ s. s.attr) t.attrs

-- no raw `<` or `&#X` in an attribute value: [10], [66]
unfoldable pub in_value : Attr → List ℕ
in_value a = places_of raw a.raw a.valued

abbrev pub in_values : List Attr → List ℕ
in_values [] = []
in_values (a ∷ xs) = in_value a ++ in_values xs

abbrev pub tag_values : List Tag → List ℕ
tag_values [] = []
tag_values (t ∷ ts) = in_values (attrs_of t) ++ tag_values ts

-- no `--` inside a comment, and no hyphen at its end: [15]. The inside of one ends before the first `-->`
abbrev pub inside : List ℕ → List ℕ
inside l = take (first_place (starts (bytes "-->")) l) l

-- of the comment whose `<` stands at a place
unfoldable pub in_comment : List ℕ → ℕ → List ℕ
in_comment doc at = places_of hyphens (inside (drop (at + 4) doc)) (at + 4)

abbrev pub in_comments : List ℕ → List ℕ → List ℕ
in_comments doc [] = []
in_comments doc (c ∷ cs) = in_comment doc c ++ in_comments doc cs

-- tag and attribute names: [5]
unfoldable pub in_name : List ℕ → ℕ → List ℕ
in_name n at = fault_at at (name_fault n) (length n)

abbrev pub in_names : List Attr → List ℕ
in_names [] = []
in_names (a ∷ xs) = in_name a.name a.at ++ in_names xs

abbrev pub tag_names : List Tag → List ℕ
tag_names [] = []
tag_names (t ∷ ts) = (in_name t.name (suc t.at) ++ in_names (attrs_of t)) ++ tag_names ts

-- the root's tag is `node`
abbrev pub root_name : List Tag → List ℕ
root_name [] = []
root_name (t ∷ ts) = if (same t.name (bytes "node")) [] (suc t.at ∷ [])

-- every character a Char: [2]
abbrev pub in_text : List ℕ → List ℕ
in_text doc = fault_at 0 (char_fault doc) (length doc)

-- after the root, which ends at a place, only Misc*: [27]; of a closed comment there its own first breach counts
abbrev pub after_root : List ℕ → ℕ → List ℕ
after_root doc end = fault_at 0 (after_fault (drop end doc) end) (length doc)

-- tags and comments are those that reading meets
unfoldable pub breaches : List ℕ → List ℕ
breaches doc =
    tag_values (met_tags doc)
    ++ in_comments doc (met_comments doc)
    ++ tag_names (met_tags doc)
    ++ in_text doc
    ++ root_name (met_tags doc)
    ++ after_root doc (root_end doc)
