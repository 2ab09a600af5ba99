-- Laws of writing an arg: its annotations are those among the rows after it.
use Prim.Native.Nat.{ℕ, suc, ◌+◌, ◌-◌, ◌*◌, ◌<◌}
use native.Mathlib.Omega.{arith}
use mathlib.Core.Path.{◌≡◌, refl, ap, sym, subst, ◌∙◌}
use mathlib.Core.List.{List, [], ◌∷◌, ◌++◌, map, append_assoc}
use mathlib.Core.Bool.{Bool, true, false, not}
use borrow.Author.Rules.{rules}
use lib.Dec.{T}
use lib.ListN.{drop}
use lib.Seq.{get_or-drop}
use Rattle.slices.specs.Bytes.{bytes, empty}
use Rattle.tables.specs.Triple.{shown}
use Rattle.document.specs.Kinds as kinds
use Rattle.answers.specs.Puts.{Puts}
use Rattle.answers.proofs.Putting.{puts_then, puts_as}
use Rattle.items.specs.Words.{triple_at, rows_shown, word_at, shown_row}
use Rattle.items.specs.Written.{Annotation, Arg, Pair, pairs, optional, tag, closing_tag, concat, element, written_annotation, written_arg}
use Rattle.items.specs.Content.{direction, annotations, arg_of}
use Rattle.items.proofs.Words.{present_shown}
use Rattle.writers.specs.Rows.{words_in, rows_in, any_child, SomeChild, Held, Last}
use Rattle.writers.specs.Writes.{annotations_in, AnnotationsPut, name_at, type_at, direction_at, ArgTagPut, ArgPut}
use Rattle.writers.proofs.Rows.{give_annotations, any_given, own_given}

-- an element without children, and with
pub element_bare : (n : List ℕ) (ps : List Pair) (cs : List (List ℕ)) → not (empty cs) ≡ false → element n ps cs ≡ tag n ps true
element_bare n ps [] h = refl
element_bare n ps (c ∷ cs) h = absurd (subst T h tt)

pub element_full : (n : List ℕ) (ps : List Pair) (cs : List (List ℕ)) → not (empty cs) ≡ true → element n ps cs ≡ tag n ps false ++ (concat cs ++ closing_tag n)
element_full n ps [] h = absurd (subst T (sym h) tt)
element_full n ps (c ∷ cs) h = refl

pub empty_map : {A B : Type 0} (f : A → B) (l : List A) → empty (map f l) ≡ empty l
empty_map f [] = refl
empty_map f (a ∷ l) = refl

-- the attributes of the arg of row i, its annotations up to a row, and the arg
abbrev arg_attributes : List ℕ → List ℕ → List ℕ → ℕ → List Pair
arg_attributes d x ws i = optional (name_at d x ws i) ++ (type_at d x ws i ++ direction_at ws i)

abbrev pub notes_of : List ℕ → List ℕ → List ℕ → ℕ → ℕ → List Annotation
notes_of d x ws i to = annotations (suc i) (rows_in d x ws (suc i) (to - suc i))

abbrev arg_in : List ℕ → List ℕ → List ℕ → ℕ → ℕ → Arg
arg_in d x ws i to = record { name = name_at d x ws i; type = shown d x (triple_at 5 (drop (i * 16) ws)); direction = direction (word_at ws i 14); annotations = notes_of d x ws i to }

module _ (d x ws : List ℕ) (i to : ℕ) where
  arg_is : (m : ℕ) → Held ws m → Last ws m i to → arg_in d x ws i to ≡ arg_of (rows_shown d x ws m) i (shown_row d x ws i)
  unfolding name_at
  arg_is m h l =
      let a = own_given (give_annotations (suc i)) d x ws m to h l in
      let t = present_shown d x (triple_at 5 (drop (i * 16) ws)) in
      let w = ap direction (get_or-drop (i * 16) ws 14 0) in
      λ j. record { name = name_at d x ws i; type = sym t j; direction = sym w j; annotations = sym a j }

  some_noted : {p : ℕ} {b : Bool} → p ≡ i + 1 → SomeChild ws kinds.annotation p p to b → b ≡ not (empty (map written_annotation (notes_of d x ws i to)))
  some_noted {p} e c =
      let f : p ≡ suc i = omega (arith, e) in
      c.is
      ∙ ap (λ q. any_child kinds.annotation q (words_in ws q (to - q))) f
      ∙ any_given (give_annotations (suc i)) d x (suc i) (words_in ws (suc i) (to - suc i))
      ∙ ap not (sym (empty_map written_annotation (notes_of d x ws i to)))

  module _ {p : ℕ} {b : Bool} (e : p ≡ i + 1) (c : SomeChild ws kinds.annotation p p to b) where
    bare_bytes : b ≡ false → (bytes "<arg" ++ pairs (arg_attributes d x ws i)) ++ bytes "/>" ≡ written_arg (arg_in d x ws i to)
    unfolding tag type_at direction_at
    bare_bytes f = sym (element_bare (bytes "arg") (arg_attributes d x ws i) (map written_annotation (notes_of d x ws i to)) (sym (some_noted e c) ∙ f))

    full_bytes : b ≡ true → (bytes "<arg" ++ pairs (arg_attributes d x ws i)) ++ (bytes ">" ++ (annotations_in d x ws p p to ++ bytes "</arg>")) ≡ written_arg (arg_in d x ws i to)
    unfolding tag closing_tag annotations_in type_at direction_at
    full_bytes f =
        let g : p ≡ suc i = omega (arith, e) in
        ap (λ k. (bytes "<arg" ++ pairs (arg_attributes d x ws i)) ++ (bytes ">" ++ (concat (map written_annotation (annotations k (rows_in d x ws k (to - k)))) ++ bytes "</arg>"))) g
        ∙ ap (λ l. bytes "<arg" ++ l) (sym (append_assoc (pairs (arg_attributes d x ws i)) (bytes ">") (concat (map written_annotation (notes_of d x ws i to)) ++ bytes "</arg>")))
        ∙ sym (element_full (bytes "arg") (arg_attributes d x ws i) (map written_annotation (notes_of d x ws i to)) (sym (some_noted e c) ∙ f))

module _ {d x ws : List ℕ} {i to p : ℕ} {b : Bool} (e : p ≡ i + 1) (o : i < to) (c : SomeChild ws kinds.annotation p p to b) where
  module _ {t t₁ : List ℕ} {n m : ℕ} (q : ArgTagPut d x ws i n t t₁ m) where
    pub arg_bare : {t₂ : List ℕ} {r : ℕ} → b ≡ false → Puts (bytes "/>") m t₁ t₂ r → ArgPut d x ws i to n t t₂ r
    arg_bare f s = record {
      puts = λ k h l. puts_as (bare_bytes d x ws i to e c f ∙ ap written_arg (arg_is d x ws i to k h l)) (puts_then q.puts s);
      most = omega (arith, q.most, s.counts, o);
    }

    pub arg_full : {t₂ t₃ t₄ : List ℕ} {u v r : ℕ} → b ≡ true → Puts (bytes ">") m t₁ t₂ u → AnnotationsPut d x ws p p to u t₂ t₃ v → Puts (bytes "</arg>") v t₃ t₄ r → ArgPut d x ws i to n t t₄ r
    arg_full f s w z = record {
      puts = λ k h l. puts_as (full_bytes d x ws i to e c f ∙ ap written_arg (arg_is d x ws i to k h l)) (puts_then q.puts (puts_then s (puts_then w.puts z)));
      most = omega (arith, q.most, s.counts, w.most, z.counts, o, e);
    }

pub ruleset args = (arg_bare, arg_full, rules)
