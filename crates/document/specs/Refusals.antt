-- Refusals (docs/FORMAT.md, Messages): number, place, and what the message shows: up to two excerpts of the document, and a key.
use Rattle.std.specs.Prelude.{ℕ, suc, List, [], ◌∷◌, ◌||◌, eqb, length, drop}
use Rattle.slices.specs.Bytes.{if, other, span}
use Rattle.scan.specs.Classes.{name_byte}
use Rattle.document.specs.Tags.{Shown}
use Rattle.document.specs.Tokens.{Tag}
use Rattle.document.specs.declared.Excerpt.{Excerpt}
use Rattle.document.specs.declared.Refusal.{Refusal}

-- bytes that stand in the document at a place; none
abbrev pub excerpt : ℕ → List ℕ → Excerpt
excerpt at s = record { at = at; len = length s }

abbrev pub nothing : Excerpt
nothing = record { at = 0; len = 0 }

-- the raw value of an attribute
abbrev pub raw_of : Shown → Excerpt
raw_of s = excerpt s.attr.valued s.attr.raw

-- a number at a place, with a message that shows nothing; one excerpt; two
abbrev pub bare : ℕ → ℕ → Refusal
bare n p = record { place = p; number = n; key = 0; first = nothing; second = nothing }

abbrev pub showing : ℕ → ℕ → Excerpt → Refusal
showing n p a = record { place = p; number = n; key = 0; first = a; second = nothing }

abbrev pub showing_both : ℕ → ℕ → Excerpt → Excerpt → Refusal
showing_both n p a b = record { place = p; number = n; key = 0; first = a; second = b }

-- a tag lacks the attribute of a key (1 name, 2 type, 3 access, 4 value): 12 at the element's name, which is shown
abbrev pub lacking : ℕ → Tag → Refusal
lacking k t = record { place = suc t.at; number = 12; key = k; first = excerpt (suc t.at) t.name; second = nothing }

-- a fault in the markup: 8 shows the attribute's name; 10 and 11 the reference, from its `&` to its `;` (59)
unfoldable pub fault_in : List ℕ → ℕ → ℕ → Refusal
fault_in doc n p =
    let name = excerpt p (span name_byte (drop p doc)) in
    let reference : Excerpt = record { at = p; len = suc (length (span (other 59) (drop p doc))) } in
    if (eqb n 8) (showing n p name) (if (eqb n 10 || eqb n 11) (showing n p reference) (bare n p))

-- the numbers of faults met while reading
abbrev pub faults : List ℕ
faults = 3 ∷ 4 ∷ 5 ∷ 6 ∷ 7 ∷ 8 ∷ 9 ∷ 10 ∷ 11 ∷ 12 ∷ 13 ∷ 14 ∷ 15 ∷ 16 ∷ 17 ∷ 22 ∷ 23 ∷ 24 ∷ 25 ∷ []

-- how many excerpts the message of a number shows
abbrev pub shown_by : ℕ → ℕ
shown_by n =
    let one = eqb n 5 || eqb n 8 || eqb n 10 || eqb n 11 || eqb n 12 || eqb n 15 || eqb n 16 in
    if (eqb n 6) 2 (if one 1 0)
