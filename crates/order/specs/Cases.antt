-- Worked cases: tables, each with what ordering its definitions says.
use Rattle.std.specs.Prelude.{ℕ, suc, ◌≡◌, refl, List, [], ◌∷◌, ◌++◌, map, replicate}
use Prim.Native.String as string
use Rattle.std.proofs.Math.Option.{Option, none, some}
use Rattle.slices.specs.Bytes.{bytes}
use Rattle.utf8.specs.WellFormed.{sequence, ill_formed}
use Rattle.names.specs.Names.{interface_name, member_name}
use Rattle.names.specs.Signature.{signature}
use Rattle.tables.specs.Triple.{shown}
use Rattle.document.specs.Elements.{may_hold}
use Rattle.items.specs.Content.{Row}
use Rattle.items.specs.Sound.{good_triple, good_row, counted, sound_row, soundness}
use Rattle.order.specs.Relation.{order, first_circle}
use Rattle.order.specs.Types.{uses, undefined}
use Rattle.order.specs.Ordering.{Outcome, ordered, wrong, types_ordered, ordering, left_of}

-- ---- tables of a node (row 0) and these rows

abbrev pub row : ℕ → ℕ → Option (List ℕ) → Option (List ℕ) → Row
row k p name tp = record { kind = k; parent = p; name = name; value = none; tp = tp; doc = none; word = 0; at = 0 }

-- a simple-type, an enum, a mapping, a struct of a name in the node
abbrev pub simple : string.String → Row
simple s = row 8 1 (some (bytes s)) none

abbrev pub enumeration : string.String → Row
enumeration s = row 9 1 (some (bytes s)) none

abbrev pub mapping : string.String → Row
mapping s = row 13 1 (some (bytes s)) none

abbrev pub struct : string.String → Row
struct s = row 11 1 (some (bytes s)) none

-- a member in row i, with a tp type; or with none
abbrev pub member : ℕ → string.String → Row
member i tp = row 12 (suc i) (some (bytes "m")) (some (bytes tp))

abbrev pub untyped : ℕ → Row
untyped i = row 12 (suc i) (some (bytes "m")) none

abbrev pub result : List Row → Outcome
result rows = types_ordered 4 (row 1 0 none none ∷ rows)

abbrev pub cases : List (List Row × Outcome)
cases =
    ([], ordered [] 0)
    -- the smallest ready row anew after each: neither a queue (3 4 1) nor depth first (4 1 3)
    ∷ (struct "A" ∷ member 1 "B" ∷ simple "B" ∷ simple "C" ∷ [], ordered (3 ∷ 1 ∷ 4 ∷ []) 0)
    ∷ (struct "A" ∷ member 1 "C" ∷ simple "B" ∷ enumeration "C" ∷ [], ordered (3 ∷ 4 ∷ 1 ∷ []) 0)
    -- the first row on a circle, not one that leads to it
    ∷ (struct "A" ∷ member 1 "B" ∷ struct "B" ∷ member 3 "C" ∷ struct "C" ∷ member 5 "B" ∷ [], wrong 28 3)
    ∷ (struct "A" ∷ member 1 "A" ∷ [], wrong 28 1)
    ∷ (mapping "A" ∷ untyped 1 ∷ member 1 "A[]" ∷ [], wrong 28 1)
    -- of several definitions with one name the first row counts, and the later ones wait for what they use
    ∷ (simple "A" ∷ struct "A" ∷ member 2 "A" ∷ [], ordered (1 ∷ 2 ∷ []) 0)
    ∷ (struct "A" ∷ member 1 "B" ∷ struct "A" ∷ simple "B" ∷ struct "C" ∷ member 5 "A" ∷ [], ordered (3 ∷ 4 ∷ 1 ∷ 5 ∷ []) 0)
    -- with both a name and that name followed by `[]`, both are used; one `[]` is taken off and no more
    ∷ (struct "U" ∷ member 1 "A[]" ∷ simple "A[]" ∷ simple "A" ∷ [], ordered (3 ∷ 4 ∷ 1 ∷ []) 0)
    ∷ (struct "U" ∷ member 1 "A[][]" ∷ simple "A" ∷ [], ordered (1 ∷ 3 ∷ []) 1)
    -- members whose tp type no row defines, each once; the empty tp type is a name, and a missing one is none
    ∷ (struct "A" ∷ member 1 "X" ∷ member 1 "X" ∷ member 1 "X[]" ∷ [], ordered (1 ∷ []) 3)
    ∷ (struct "A" ∷ member 1 "" ∷ untyped 1 ∷ [], ordered (1 ∷ []) 1)
    ∷ (struct "A" ∷ member 1 "[]" ∷ simple "" ∷ [], ordered (3 ∷ 1 ∷ []) 0)
    -- four words are lent
    ∷ (simple "A" ∷ simple "B" ∷ simple "C" ∷ simple "D" ∷ simple "E" ∷ [], wrong 18 5)
    ∷ (simple "A" ∷ simple "B" ∷ simple "C" ∷ simple "D" ∷ struct "E" ∷ member 5 "E" ∷ [], wrong 28 5)
    ∷ []

pub worked : map (λ c. result c.0) cases ≡ map (λ c. c.1) cases
unfolding order first_circle uses undefined
worked = refl

-- ---- the entry: a node, a struct A with a member of type B, and a simple type B, in a text

abbrev pub document : List ℕ
document = bytes "<"

abbrev pub text : List ℕ
text = bytes "ABs"

abbrev pub front : List ℕ
front = 1 ∷ replicate 15 0

-- the member's tp type is the byte of the text at a place
abbrev pub words : ℕ → List ℕ
words p =
    front
    ++ (11 ∷ 1 ∷ 2 ∷ 0 ∷ 1 ∷ replicate 11 0)
    ++ (12 ∷ 2 ∷ 2 ∷ 2 ∷ 1 ∷ 2 ∷ 2 ∷ 1 ∷ 2 ∷ p ∷ 1 ∷ replicate 5 0)
    ++ (8 ∷ 1 ∷ 2 ∷ 1 ∷ 1 ∷ 2 ∷ 2 ∷ 1 ∷ replicate 8 0)

-- the place of the tp type, the rows claimed, the words lent
abbrev pub asked : List (ℕ × ℕ × ℕ × Outcome)
asked =
    (1, 4, 2, ordered (3 ∷ 1 ∷ []) 0)
    ∷ (1, 4, 1, wrong 18 2)
    ∷ (0, 4, 0, wrong 28 1)
    ∷ (2, 4, 2, ordered (1 ∷ 3 ∷ []) 1)
    ∷ (3, 4, 2, wrong 19 2)
    ∷ (1, 5, 2, wrong 19 4)
    ∷ (1, 0, 0, ordered [] 0)
    ∷ []

pub answered : map (λ c. ordering document text (words c.0) c.1 c.2) asked ≡ map (λ c. c.3) asked
unfolding ordering soundness sound_row good_row counted good_triple shown may_hold ill_formed sequence interface_name member_name signature order first_circle uses undefined
answered = refl

pub zeros : left_of 4 (ordered (3 ∷ 1 ∷ []) 0) ≡ 3 ∷ 1 ∷ 0 ∷ 0 ∷ []
zeros = refl
