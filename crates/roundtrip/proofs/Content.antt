-- The rows of an item, wherever they stand in a table whose other rows are no children of theirs, tell the item.
use Prim.Native.Nat.{ℕ, suc, ◌+◌, ◌≤◌, ◌<◌}
use native.Mathlib.Omega.{arith}
use mathlib.Core.Path.{◌≡◌, refl, ap, ◌∙◌, sym}
use mathlib.Core.List.{List, [], ◌∷◌, ◌++◌, append_assoc, append-nil}
use mathlib.Core.Option.{none, some}
use mathlib.Core.Bool.{false, and-false}
use borrow.Author.Tests.{eq-eqb, ne_eqb}
use lib.Dec.{eqb}
use lib.ListN.{length, length-append}
use lib.Seq.{drop-append_seam}
use Rattle.document.specs.Kinds as kinds
use Rattle.items.specs.Written.{Annotation, Arg, Direction, no-direction, inward, outward, Member, Item, annotated, argument, method, signal}
use Rattle.items.specs.Words.{is_child}
use Rattle.items.specs.Content.{Row, annotations, arg_of, args, member_of, content, direction}
use Rattle.items.proofs.Children.{annotations_append, args_append}
use Rattle.roundtrip.specs.Items.{code, bare_row, annotation_rows, arg_row, arg_rows, args_rows, member_rows, rows, node_row, interface_row}

-- no row is a child of rows lo to hi less one
abbrev pub Clear : ℕ → ℕ → List Row → Type 0
Clear lo hi [] = Unit {0}
Clear lo hi (r ∷ rs) = (lo < r.parent → r.parent ≤ hi → ⊥) × Clear lo hi rs

clear_append : (lo hi : ℕ) (l m : List Row) → Clear lo hi l → Clear lo hi m → Clear lo hi (l ++ m)
clear_append lo hi [] m h k = k
clear_append lo hi (r ∷ l) m h k = (h.0, clear_append lo hi l m h.1 k)

no_child : (k p : ℕ) (r : Row) → (r.parent ≡ p → ⊥) → is_child k p r.kind r.parent ≡ false
no_child k p r h = rw (ne_eqb r.parent p h) (and-false (eqb r.kind k))

clear_notes : (lo hi q : ℕ) (l : List Row) → lo < q → q ≤ hi → Clear lo hi l → annotations q l ≡ []
clear_notes lo hi q [] a b h = refl
clear_notes lo hi q (r ∷ l) a b h = rw (no_child 6 q r (λ e. h.0 (omega arith) (omega arith))) (clear_notes lo hi q l a b h.1)

clear_args : (t : List Row) (lo hi q i : ℕ) (l : List Row) → lo < q → q ≤ hi → Clear lo hi l → args t q i l ≡ []
clear_args t lo hi q i [] a b h = refl
clear_args t lo hi q i (r ∷ l) a b h = rw (no_child 7 q r (λ e. h.0 (omega arith) (omega arith))) (clear_args t lo hi q (suc i) l a b h.1)

own_notes : (q : ℕ) (xs : List Annotation) → annotations q (annotation_rows q xs) ≡ xs
own_notes q [] = refl
own_notes q (x ∷ xs) = rw (eq-eqb q q refl) (ap (◌∷◌ x) (own_notes q xs))

-- rows that hold just their own annotations, in a table with no other children of theirs
notes_in : (b l m : List Row) (lo hi q : ℕ) → lo < q → q ≤ hi → Clear lo hi b → Clear lo hi m → annotations q (b ++ (l ++ m)) ≡ annotations q l
notes_in b l m lo hi q x y h k = rw (annotations_append q b (l ++ m), annotations_append q l m, clear_notes lo hi q b x y h, clear_notes lo hi q m x y k) (append-nil (annotations q l))

direction_back : (d : Direction) → direction (code d) ≡ d
direction_back no-direction = refl
direction_back inward = refl
direction_back outward = refl

arg_back : (b m : List Row) (p : ℕ) (a : Arg) (t : List Row) (i : ℕ) → length b ≡ i → t ≡ b ++ (arg_rows p i a ++ m) → Clear i (i + length (arg_rows p i a)) b → Clear i (i + length (arg_rows p i a)) m → arg_of t i (arg_row p a) ≡ a
arg_back b m p a t i z e h k =
    let n : annotations (suc i) t ≡ a.annotations = ap (annotations (suc i)) e ∙ notes_in b (arg_rows p i a) m i (i + length (arg_rows p i a)) (suc i) (omega arith) (omega arith) h k ∙ own_notes (suc i) a.annotations in
    λ j. record { name = a.name; type = a.type; direction = direction_back a.direction j; annotations = n j }

narrow : (lo hi lo' hi' : ℕ) (l : List Row) → lo ≤ lo' → hi' ≤ hi → Clear lo hi l → Clear lo' hi' l
narrow lo hi lo' hi' [] a b h = tt
narrow lo hi lo' hi' (r ∷ l) a b h = ((λ x y. h.0 (omega arith) (omega arith)), narrow lo hi lo' hi' l a b h.1)

clear_annotations : (lo hi q : ℕ) (xs : List Annotation) → (lo < q → q ≤ hi → ⊥) → Clear lo hi (annotation_rows q xs)
clear_annotations lo hi q [] h = tt
clear_annotations lo hi q (x ∷ xs) h = (h, clear_annotations lo hi q xs h)

clear_arguments : (lo hi p i : ℕ) (xs : List Arg) → p ≤ lo → hi ≤ i → Clear lo hi (args_rows p i xs)
clear_arguments lo hi p i [] h k = tt
clear_arguments lo hi p i (x ∷ xs) h k = (
  (λ a b. omega arith),
  clear_append lo hi (annotation_rows (suc i) x.annotations) (args_rows p (i + length (arg_rows p i x)) xs)
      (clear_annotations lo hi (suc i) x.annotations (λ a b. omega arith))
      (clear_arguments lo hi p (i + length (arg_rows p i x)) xs h (omega arith)),
)

no_args : (t : List Row) (p i q : ℕ) (xs : List Annotation) → args t p i (annotation_rows q xs) ≡ []
no_args t p i q [] = refl
no_args t p i q (x ∷ xs) = no_args t p (suc i) q xs

no_notes : (q i : ℕ) (xs : List Arg) → 0 < q → q ≤ i → annotations q (args_rows q i xs) ≡ []
no_notes q i [] g h = refl
no_notes q i (x ∷ xs) g h =
    annotations_append q (annotation_rows (suc i) x.annotations) (args_rows q (i + length (arg_rows q i x)) xs)
    ∙ rw (clear_notes 0 i q (annotation_rows (suc i) x.annotations) g h (clear_annotations 0 i (suc i) x.annotations (λ a b. omega arith)))
    (no_notes q (i + length (arg_rows q i x)) xs g (omega arith))

args_back : (b m : List Row) (p : ℕ) (xs : List Arg) (t : List Row) (i : ℕ) → length b ≡ i → p ≤ i → t ≡ b ++ (args_rows p i xs ++ m) → Clear i (i + length (args_rows p i xs)) b → Clear i (i + length (args_rows p i xs)) m → args t p i (args_rows p i xs) ≡ xs
args_back b m p [] t i z h e k l = refl
args_back b m p (x ∷ xs) t i z h e k l =
    let n = length (arg_rows p i x) in
    let rest = args_rows p (i + n) xs in
    let total : i + length (args_rows p i (x ∷ xs)) ≡ i + n + length rest = omega (arith, length-append (arg_rows p i x) rest) in
    let f : suc i + length (annotation_rows (suc i) x.annotations) ≡ i + n = omega arith in
    let a : arg_of t i (arg_row p x) ≡ x =
    arg_back b (rest ++ m) p x t i z (e ∙ ap (◌++◌ b) (append_assoc (arg_rows p i x) rest m))
    (narrow i (i + length (args_rows p i (x ∷ xs))) i (i + n) b (omega arith) (omega arith) k)
    (clear_append i (i + n) rest m (clear_arguments i (i + n) p (i + n) xs h (omega arith)) (narrow i (i + length (args_rows p i (x ∷ xs))) i (i + n) m (omega arith) (omega arith) l)) in
    let y : args t p (i + n) rest ≡ xs =
    args_back (b ++ arg_rows p i x) m p xs t (i + n) (omega (arith, length-append b (arg_rows p i x))) (omega arith)
    (e ∙ ap (◌++◌ b) (append_assoc (arg_rows p i x) rest m) ∙ sym (append_assoc b (arg_rows p i x) (rest ++ m)))
    (clear_append (i + n) (i + n + length rest) b (arg_rows p i x)
    (narrow i (i + length (args_rows p i (x ∷ xs))) (i + n) (i + n + length rest) b (omega arith) (omega arith) k)
    ((λ c d. omega arith), clear_annotations (i + n) (i + n + length rest) (suc i) x.annotations (λ c d. omega arith)))
    (narrow i (i + length (args_rows p i (x ∷ xs))) (i + n) (i + n + length rest) m (omega arith) (omega arith) l) in
    rw (eq-eqb p p refl, args_append t p (suc i) (annotation_rows (suc i) x.annotations) rest, no_args t p (suc i) (suc i) x.annotations, f) (λ j. a j ∷ y j)

module _ (k : ℕ) (not-arg : eqb k kinds.arg ≡ false) (not-note : eqb k kinds.annotation ≡ false) (b m : List Row) (p : ℕ) (c : Member) (t : List Row) (i : ℕ) (z : length b ≡ i) (older : p ≤ i) (e : t ≡ b ++ (member_rows k p i c ++ m))
    (before : Clear i (i + length (member_rows k p i c)) b) (after : Clear i (i + length (member_rows k p i c)) m) where
  abbrev own : Row
  own = bare_row k p (some c.name) none 0

  abbrev inner : List Row
  inner = args_rows (suc i) (suc i) c.args

  abbrev outer : List Row
  outer = annotation_rows (suc i) c.annotations

  member_notes : annotations (suc i) t ≡ c.annotations
  member_notes =
      ap (annotations (suc i)) e
      ∙ notes_in b (member_rows k p i c) m i (i + length (member_rows k p i c)) (suc i) (omega arith) (omega arith) before after
      ∙ rw not-note (annotations_append (suc i) inner outer ∙ rw (no_notes (suc i) (suc i) c.args (omega arith) (omega arith)) (own_notes (suc i) c.annotations))

  inner_args : args t (suc i) (suc i) inner ≡ c.args
  inner_args =
      let n : length (member_rows k p i c) ≡ suc (length inner + length outer) = ap suc (length-append inner outer) in
      args_back (b ++ own ∷ []) (outer ++ m) (suc i) c.args t (suc i) (omega (arith, length-append b (own ∷ []))) (omega arith) (e ∙ simp append_assoc)
      (clear_append (suc i) (suc i + length inner) b (own ∷ []) (narrow i (i + length (member_rows k p i c)) (suc i) (suc i + length inner) b (omega arith) (omega arith) before) ((λ x y. omega arith), tt))
      (clear_append (suc i) (suc i + length inner) outer m (clear_annotations (suc i) (suc i + length inner) (suc i) c.annotations (λ x y. omega arith)) (narrow i (i + length (member_rows k p i c)) (suc i) (suc i + length inner) m (omega arith) (omega arith) after))

  member_args : args t (suc i) 0 t ≡ c.args
  member_args =
      let s : suc (0 + length b) ≡ suc i = omega arith in
      ap (args t (suc i) 0) e
      ∙ args_append t (suc i) 0 b (member_rows k p i c ++ m)
      ∙ rw (clear_args t i (i + length (member_rows k p i c)) (suc i) 0 b (omega arith) (omega arith) before, not-arg, s)
      (args_append t (suc i) (suc i) (inner ++ outer) m
      ∙ rw (args_append t (suc i) (suc i) inner outer, inner_args, no_args, clear_args t i (i + length (member_rows k p i c)) (suc i) (suc i + length (inner ++ outer)) m (omega arith) (omega arith) after)
      (simp append-nil))

  member_back : member_of t i own ≡ c
  member_back = λ j. record { name = c.name; args = member_args j; annotations = member_notes j }

-- an item's rows, at any place of a table
pub content_back : (c : Item) (b m : List Row) (p : ℕ) → p ≤ length b → Clear (length b) (length b + length (rows p (length b) c)) b → Clear (length b) (length b + length (rows p (length b) c)) m → content (b ++ (rows p (length b) c ++ m)) (length b) ≡ some c
unfolding content
content_back (annotated a) b m p o h k = rw (drop-append_seam b)
content_back (argument a) b m p o h k = rw (drop-append_seam b) (ap (λ x. some (argument x)) (arg_back b m p a (b ++ (arg_rows p (length b) a ++ m)) (length b) refl refl h k))
content_back (method c) b m p o h k = rw (drop-append_seam b) (ap (λ x. some (method x)) (member_back kinds.method refl refl b m p c (b ++ (member_rows kinds.method p (length b) c ++ m)) (length b) refl o refl h k))
content_back (signal c) b m p o h k = rw (drop-append_seam b) (ap (λ x. some (signal x)) (member_back kinds.signal refl refl b m p c (b ++ (member_rows kinds.signal p (length b) c ++ m)) (length b) refl o refl h k))

-- so the table of the document that holds an item tells it
pub table_back : (n : List ℕ) (c : Item) → content (node_row ∷ interface_row n ∷ rows 2 2 c) 2 ≡ some c
table_back n c =
    ap (λ r. content (node_row ∷ interface_row n ∷ r) 2) (sym (append-nil (rows 2 2 c)))
    ∙ content_back c (node_row ∷ interface_row n ∷ []) [] 2 (omega arith) ((λ x y. omega arith), ((λ x y. omega arith), tt)) tt
