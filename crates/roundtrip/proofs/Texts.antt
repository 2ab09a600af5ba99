-- What is written is well-formed UTF-8 if its texts are.
use Prim.Native.Nat.{ℕ}
use mathlib.Core.Path.{◌≡◌, refl}
use mathlib.Core.List.{List, [], ◌∷◌, ◌++◌, map}
use mathlib.Core.Option.{Option, none, some}
use mathlib.Core.Bool.{Bool, true, false}
use borrow.Author.Tests.{ltb-true}
use lib.Dec.{ltb}
use Rattle.slices.specs.Bytes.{bytes}
use Rattle.utf8.proofs.Texts.{Whole, none_whole, whole, formed, whole_append, whole_char, ascii_char, ascii}
use Rattle.references.specs.Escape.{escape}
use Rattle.references.proofs.Formed.{escape_formed}
use Rattle.items.specs.Written.{Pair, pairs, ending, tag, closing_tag, concat, element, Annotation, Direction, no-direction, inward, outward, Arg, Member, Item, annotated, argument, method, signal, named, directions, arg_pairs, written_annotation, written_arg, written_member, written}
use Rattle.roundtrip.specs.Items.{note_values, name_values, arg_values, args_values, member_values, values}
use Rattle.roundtrip.proofs.SoundRows.{Formed, AllFormed}

-- a byte below 128, then a text
pub first : (b : ℕ) (l : List ℕ) → ltb b 128 ≡ true → Whole l → Whole (b ∷ l)
first b l h w = whole_append (whole_char (ascii_char (ltb-true b 128 h))) w

abbrev AllWhole : List (List ℕ) → Type 0
AllWhole [] = Unit {0}
AllWhole (c ∷ cs) = Whole c × AllWhole cs

whole_concat : (cs : List (List ℕ)) → AllWhole cs → Whole (concat cs)
whole_concat [] h = none_whole
whole_concat (c ∷ cs) h = whole_append h.0 (whole_concat cs h.1)

append_whole : (cs ds : List (List ℕ)) → AllWhole cs → AllWhole ds → AllWhole (cs ++ ds)
append_whole [] ds h k = k
append_whole (c ∷ cs) ds h k = (h.0, append_whole cs ds h.1 k)

-- attributes with names below 128 and well-formed texts
abbrev Pairs : List Pair → Type 0
Pairs [] = Unit {0}
Pairs (p ∷ ps) = Whole p.key × Formed p.value × Pairs ps

whole_pairs : (ps : List Pair) → Pairs ps → Whole (pairs ps)
whole_pairs [] h = none_whole
whole_pairs (p ∷ ps) h =
    whole_append
    (first 32 _ refl
    (whole_append h.0 (first 61 _ refl (first 34 _ refl (whole_append (whole (escape p.value) (escape_formed p.value h.1)) (ascii _ refl))))))
    (whole_pairs ps h.2)

whole_ending : (self : Bool) → Whole (ending self)
whole_ending true = ascii _ refl
whole_ending false = ascii _ refl

pub whole_tag : (n : List ℕ) (ps : List Pair) (self : Bool) → Whole n → Whole (pairs ps) → Whole (tag n ps self)
unfolding tag
whole_tag n ps self a h = first 60 _ refl (whole_append a (whole_append h (whole_ending self)))

pub whole_close : (n : List ℕ) → Whole n → Whole (closing_tag n)
unfolding closing_tag
whole_close n a = first 60 _ refl (first 47 _ refl (whole_append a (ascii _ refl)))

pub whole_element : (n : List ℕ) (ps : List Pair) (cs : List (List ℕ)) → Whole n → Whole (pairs ps) → Whole (concat cs) → Whole (element n ps cs)
whole_element n ps [] a h k = whole_tag n ps true a h
whole_element n ps (c ∷ cs) a h k = whole_append (whole_tag n ps false a h) (whole_append k (whole_close n a))

whole_parts : (n : List ℕ) → Whole n → (ps : List Pair) → Pairs ps → (cs : List (List ℕ)) → AllWhole cs → Whole (element n ps cs)
whole_parts n a ps h cs k = whole_element n ps cs a (whole_pairs ps h) (whole_concat cs k)

whole_annotation : (a : Annotation) → Formed a.name → Formed a.value → Whole (written_annotation a)
whole_annotation a h k = whole_parts (bytes "annotation") (ascii _ refl) _ (ascii _ refl, h, (ascii _ refl, k, tt)) [] tt

whole_annotations : (xs : List Annotation) → AllFormed (note_values xs) → AllWhole (map written_annotation xs)
whole_annotations [] h = tt
whole_annotations (a ∷ xs) h = (whole_annotation a h.0 h.1.0, whole_annotations xs h.1.1)

pub formed_split : (xs ys : List (List ℕ)) → AllFormed (xs ++ ys) → AllFormed xs × AllFormed ys
formed_split [] ys h = (tt, h)
formed_split (x ∷ xs) ys h = let t = formed_split xs ys h.1 in ((h.0, t.0), t.1)

whole_directions : (d : Direction) → Pairs (directions d)
whole_directions no-direction = tt
whole_directions inward = (ascii _ refl, formed (ascii (bytes "in") refl), tt)
whole_directions outward = (ascii _ refl, formed (ascii (bytes "out") refl), tt)

whole_arg_pairs : (n : Option (List ℕ)) (t : List ℕ) (d : Direction) → AllFormed (name_values n) → Formed t → Pairs (arg_pairs n t d)
whole_arg_pairs none t d h k = (ascii _ refl, k, whole_directions d)
whole_arg_pairs (some n) t d h k = (ascii _ refl, h.0, (ascii _ refl, k, whole_directions d))

whole_arg : (a : Arg) → AllFormed (arg_values a) → Whole (written_arg a)
whole_arg a h =
    let t = formed_split (name_values a.name) (a.type ∷ note_values a.annotations) h in
    whole_parts (bytes "arg") (ascii _ refl) (arg_pairs a.name a.type a.direction) (whole_arg_pairs a.name a.type a.direction t.0 t.1.0) (map written_annotation a.annotations) (whole_annotations a.annotations t.1.1)

whole_args : (xs : List Arg) → AllFormed (args_values xs) → AllWhole (map written_arg xs)
whole_args [] h = tt
whole_args (a ∷ xs) h = let t = formed_split (arg_values a) (args_values xs) h in (whole_arg a t.0, whole_args xs t.1)

whole_member : (n : List ℕ) → Whole n → (m : Member) → AllFormed (member_values m) → Whole (written_member n m)
whole_member n a m h =
    let t = formed_split (args_values m.args) (note_values m.annotations) h.1 in
    whole_parts n a (named m.name ∷ []) (ascii _ refl, h.0, tt) (map written_arg m.args ++ map written_annotation m.annotations)
    (append_whole (map written_arg m.args) (map written_annotation m.annotations) (whole_args m.args t.0) (whole_annotations m.annotations t.1))

pub whole_written : (c : Item) → AllFormed (values c) → Whole (written c)
whole_written (annotated a) h = whole_annotation a h.0 h.1.0
whole_written (argument a) h = whole_arg a h
whole_written (method m) h = whole_member (bytes "method") (ascii _ refl) m h
whole_written (signal m) h = whole_member (bytes "signal") (ascii _ refl) m h
