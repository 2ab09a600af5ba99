-- What is written (the crate zbus_xml 6.0.0, `write_xml` of Annotation, Arg, Method and Signal): contents and their bytes.
use Rattle.std.specs.Prelude.{ℕ, List, [], ◌∷◌, ◌++◌, map, Bool, true, false}
use Rattle.std.proofs.Math.Option.{Option, none, some}
use Rattle.slices.specs.Bytes.{bytes}
use Rattle.references.specs.Escape.{escape}

-- an attribute: its name and the text that its value shows
pub record Pair : Type 0 where
  pub key : List ℕ
  pub value : List ℕ

-- a space (32), the name, `=` (61), and the value in quotes (34)
abbrev pub pair : List ℕ → List ℕ → List ℕ
pair k v = 32 ∷ k ++ (61 ∷ 34 ∷ escape v ++ (34 ∷ []))

abbrev pub pairs : List Pair → List ℕ
pairs [] = []
pairs (p ∷ ps) = pair p.key p.value ++ pairs ps

abbrev pub ending : Bool → List ℕ
ending true = bytes "/>"
ending false = bytes ">"

unfoldable pub tag : List ℕ → List Pair → Bool → List ℕ
tag n ps self = 60 ∷ n ++ (pairs ps ++ ending self)

unfoldable pub closing_tag : List ℕ → List ℕ
closing_tag n = 60 ∷ 47 ∷ n ++ (62 ∷ [])

abbrev pub concat : List (List ℕ) → List ℕ
concat [] = []
concat (c ∷ cs) = c ++ concat cs

-- an element of a name, with attributes and written children: `/>` if there are none
abbrev pub element : List ℕ → List Pair → List (List ℕ) → List ℕ
element n ps [] = tag n ps true
element n ps (c ∷ cs) = tag n ps false ++ (concat (c ∷ cs) ++ closing_tag n)

-- written content: what of a row and the rows under it is written
pub record Annotation : Type 0 where
  pub name : List ℕ
  pub value : List ℕ

pub data Direction : Type 0 where
  no-direction inward outward : Direction

pub record Arg : Type 0 where
  pub name : Option (List ℕ)
  pub type : List ℕ
  pub direction : Direction
  pub annotations : List Annotation

-- a method or a signal
pub record Member : Type 0 where
  pub name : List ℕ
  pub args : List Arg
  pub annotations : List Annotation

pub data Item : Type 0 where
  annotated : Annotation → Item
  argument : Arg → Item
  method signal : Member → Item

abbrev pub named : List ℕ → Pair
named n = record { key = bytes "name"; value = n }

abbrev pub optional : Option (List ℕ) → List Pair
optional none = []
optional (some n) = named n ∷ []

abbrev pub directions : Direction → List Pair
directions no-direction = []
directions inward = record { key = bytes "direction"; value = bytes "in" } ∷ []
directions outward = record { key = bytes "direction"; value = bytes "out" } ∷ []

abbrev pub written_annotation : Annotation → List ℕ
written_annotation a = element (bytes "annotation") (named a.name ∷ record { key = bytes "value"; value = a.value } ∷ []) []

-- name, type, direction
abbrev pub arg_pairs : Option (List ℕ) → List ℕ → Direction → List Pair
arg_pairs n t d = optional n ++ (record { key = bytes "type"; value = t } ∷ directions d)

abbrev pub written_arg : Arg → List ℕ
written_arg a = element (bytes "arg") (arg_pairs a.name a.type a.direction) (map written_annotation a.annotations)

-- args before annotations
abbrev pub written_member : List ℕ → Member → List ℕ
written_member n m = element n (named m.name ∷ []) (map written_arg m.args ++ map written_annotation m.annotations)

abbrev pub written : Item → List ℕ
written (annotated a) = written_annotation a
written (argument a) = written_arg a
written (method m) = written_member (bytes "method") m
written (signal m) = written_member (bytes "signal") m
