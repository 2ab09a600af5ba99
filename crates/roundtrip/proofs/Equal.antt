-- Equal bytes exactly for equal contents, and no content's bytes begin another's.
use Prim.Native.Nat.{ℕ, suc, ◌+◌}
use native.Mathlib.Omega.{arith}
use mathlib.Core.Path.{◌≡◌, refl, ap, ◌∙◌, sym}
use mathlib.Core.List.{List, [], ◌∷◌, ◌++◌, map, append-nil}
use mathlib.Core.Option.{Option, none, some}
use mathlib.Core.Bool.{true}
use lib.ListN.{length, get_or}
use Rattle.slices.specs.Bytes.{bytes}
use Rattle.document.specs.Tokens.{tokens}
use Rattle.document.specs.Elements.{may_hold}
use Rattle.document.specs.Reading as reading
use Rattle.document.specs.Reading.{fold}
use Rattle.items.specs.View.{over, view_row}
use Rattle.items.specs.Written.{Annotation, Arg, Member, Item, annotated, argument, method, signal, Pair, named, arg_pairs, tag, element, written_annotation, written_arg, written_member, written}
use Rattle.items.specs.Content as shown
use Rattle.items.specs.Content.{content}
use Rattle.roundtrip.specs.Items.{annotation_rows, arg_rows, args_rows, member_rows, rows, node_row}
use Rattle.roundtrip.specs.Statement.{Told}
use Rattle.roundtrip.proofs.Held.{Held, keeps, mark, Row, State, marked}
use Rattle.roundtrip.proofs.Elements.{name_from, Element, upto}
use Rattle.roundtrip.proofs.Items.{Good, kind, item_element}
use Rattle.roundtrip.proofs.Content.{content_back}

-- one element begins another: they lead from a state to one and the same
one_end : {b d : List ℕ} {s s' s'' : State} → Element b s s' → Element d s s'' → (x : List ℕ) → d ≡ b ++ x → s' ≡ s''
one_end {b} {d} {s} e f x h = sym (e.passes.does.folds [] 0) ∙ ap (fold keeps [] s) same-tokens ∙ f.passes.does.folds [] 0
  where
    both : e.passes.does.toks 0 ++ tokens x (0 + length b) ≡ f.passes.does.toks 0 ++ tokens [] (0 + length d)
    both = sym (e.passes.does.lexed 0 x) ∙ ap (λ l. tokens l 0) (sym h ∙ sym (append-nil d)) ∙ f.passes.does.lexed 0 []

    same-tokens : e.passes.does.toks 0 ≡ f.passes.does.toks 0
    same-tokens = sym (e.whole 0 (tokens x (0 + length b))) ∙ ap (upto 0) both ∙ f.whole 0 (tokens [] (0 + length d))

-- the texts of rows, back from what is written for them
abbrev pub value_of : Held → List ℕ
value_of h = h.value

value_marked : (o : Option (List ℕ)) → over value_of (over mark o) ≡ o
value_marked none = refl
value_marked (some v) = refl

-- rows without places, as those of an item
abbrev pub Placeless : List shown.Row → Type 0
Placeless [] = Unit {0}
Placeless (r ∷ rs) = (r.at ≡ 0) × Placeless rs

pub both_placeless : (rs ss : List shown.Row) → Placeless rs → Placeless ss → Placeless (rs ++ ss)
both_placeless [] ss h i = i
both_placeless (r ∷ rs) ss h i = (h.0, both_placeless rs ss h.1 i)

annotations_placeless : (p : ℕ) (xs : List Annotation) → Placeless (annotation_rows p xs)
annotations_placeless p [] = tt
annotations_placeless p (a ∷ xs) = (refl, annotations_placeless p xs)

args_placeless : (p i : ℕ) (xs : List Arg) → Placeless (args_rows p i xs)
args_placeless p i [] = tt
args_placeless p i (a ∷ xs) =
    both_placeless (arg_rows p i a) (args_rows p (i + length (arg_rows p i a)) xs) (refl, annotations_placeless (suc i) a.annotations) (args_placeless p (i + length (arg_rows p i a)) xs)

member_placeless : (k p i : ℕ) (m : Member) → Placeless (member_rows k p i m)
member_placeless k p i m =
    (refl, both_placeless (args_rows (suc i) (suc i) m.args) (annotation_rows (suc i) m.annotations) (args_placeless (suc i) (suc i) m.args) (annotations_placeless (suc i) m.annotations))

pub item_placeless : (p i : ℕ) (c : Item) → Placeless (rows p i c)
item_placeless p i (annotated a) = (refl, tt)
item_placeless p i (argument a) = (refl, annotations_placeless (suc i) a.annotations)
item_placeless p i (method m) = member_placeless 3 p i m
item_placeless p i (signal m) = member_placeless 5 p i m

pub unmarked : (rs : List shown.Row) → Placeless rs → map (view_row value_of) (map marked rs) ≡ rs
unmarked [] h = refl
unmarked (r ∷ rs) h =
    let n = value_marked r.name in
    let v = value_marked r.value in
    let t = value_marked r.tp in
    let e = unmarked rs h.1 in
    let o = sym h.0 in
    λ j. record { kind = r.kind; parent = r.parent; name = n j; value = v j; tp = t j; doc = r.doc; word = r.word; at = o j } ∷ e j

rows_in : State → List Row
rows_in reading.begun = []
rows_in (reading.reading fs t) = t.rows
rows_in (reading.accepted t) = t.rows
rows_in (reading.refused x) = []

-- rows tell their content
item_of : (c d : Item) → node_row ∷ rows 1 1 c ≡ node_row ∷ rows 1 1 d → c ≡ d
item_of c d e =
    let x = content_back c (node_row ∷ []) [] 1 (omega arith) ((λ a b. omega arith), tt) tt in
    let y = content_back d (node_row ∷ []) [] 1 (omega arith) ((λ a b. omega arith), tt) tt in
    let z : some c ≡ some d = sym x ∙ ap (λ r. content (r ++ []) 1) e ∙ y in
    cc

-- two that may stand in one element
meet : (k : ℕ) (c d : Item) → may_hold k (kind c) ≡ true → may_hold k (kind d) ≡ true → Good c → Good d → (x : List ℕ) → written d ≡ written c ++ x → c ≡ d
unfolding rows_in
meet k c d i j g h x e =
    let s = one_end (item_element k c i g (name_from 0 []) 0 [] (marked node_row ∷ []) []) (item_element k d j h (name_from 0 []) 0 [] (marked node_row ∷ []) []) x e in
    let r : map marked (node_row ∷ rows 1 1 c) ≡ map marked (node_row ∷ rows 1 1 d) = ap rows_in s in
    item_of c d (sym (unmarked (node_row ∷ rows 1 1 c) (refl, item_placeless 1 1 c)) ∙ ap (map (view_row value_of)) r ∙ unmarked (node_row ∷ rows 1 1 d) (refl, item_placeless 1 1 d))

-- an arg and a method or a signal, which stand in no element both, differ in their second byte
second : (b : ℕ) (n : List ℕ) (ps : List Pair) (cs : List (List ℕ)) (x : List ℕ) → get_or (element (b ∷ n) ps cs ++ x) 1 0 ≡ b
unfolding tag
second b n ps [] x = refl
second b n ps (c ∷ cs) x = refl

arg_second : (a : Arg) (x : List ℕ) → get_or (written_arg a ++ x) 1 0 ≡ 97
arg_second a x = second 97 (bytes "rg") (arg_pairs a.name a.type a.direction) (map written_annotation a.annotations) x

member_second : (b : ℕ) (n : List ℕ) (m : Member) (x : List ℕ) → get_or (written_member (b ∷ n) m ++ x) 1 0 ≡ b
member_second b n m x = second b n (named m.name ∷ []) (map written_arg m.args ++ map written_annotation m.annotations) x

apart : (b : ℕ) (n : List ℕ) (m : Member) (a : Arg) (x y : List ℕ) → (b ≡ 97 → ⊥) → written_member (b ∷ n) m ++ x ≡ written_arg a ++ y → ⊥
apart b n m a x y d h = d (sym (member_second b n m x) ∙ ap (λ l. get_or l 1 0) h ∙ arg_second a y)

-- one item's bytes begin another's: the two are equal
no_beginning : (c d : Item) → Good c → Good d → (x : List ℕ) → written d ≡ written c ++ x → c ≡ d
unfolding may_hold
no_beginning (annotated a) (annotated b) g h x e = meet 2 (annotated a) (annotated b) refl refl g h x e
no_beginning (annotated a) (argument b) g h x e = meet 3 (annotated a) (argument b) refl refl g h x e
no_beginning (annotated a) (method b) g h x e = meet 2 (annotated a) (method b) refl refl g h x e
no_beginning (annotated a) (signal b) g h x e = meet 2 (annotated a) (signal b) refl refl g h x e
no_beginning (argument a) (annotated b) g h x e = meet 3 (argument a) (annotated b) refl refl g h x e
no_beginning (argument a) (argument b) g h x e = meet 3 (argument a) (argument b) refl refl g h x e
no_beginning (argument a) (method b) g h x e = absurd (apart 109 (bytes "ethod") b a [] x (omega arith) (append-nil (written_member (bytes "method") b) ∙ e))
no_beginning (argument a) (signal b) g h x e = absurd (apart 115 (bytes "ignal") b a [] x (omega arith) (append-nil (written_member (bytes "signal") b) ∙ e))
no_beginning (method a) (annotated b) g h x e = meet 2 (method a) (annotated b) refl refl g h x e
no_beginning (method a) (argument b) g h x e = absurd (apart 109 (bytes "ethod") a b x [] (omega arith) (sym e ∙ sym (append-nil (written_arg b))))
no_beginning (method a) (method b) g h x e = meet 2 (method a) (method b) refl refl g h x e
no_beginning (method a) (signal b) g h x e = meet 2 (method a) (signal b) refl refl g h x e
no_beginning (signal a) (annotated b) g h x e = meet 2 (signal a) (annotated b) refl refl g h x e
no_beginning (signal a) (argument b) g h x e = absurd (apart 115 (bytes "ignal") a b x [] (omega arith) (sym e ∙ sym (append-nil (written_arg b))))
no_beginning (signal a) (method b) g h x e = meet 2 (signal a) (method b) refl refl g h x e
no_beginning (signal a) (signal b) g h x e = meet 2 (signal a) (signal b) refl refl g h x e

-- bytes tell their content
pub told : (c d : Item) → Good c → Good d → Told c d (written c) (written d)
told c d g h = record {
  same = λ e. ap written e;
  tells = λ e. no_beginning c d g h [] (sym e ∙ sym (append-nil (written c)));
  first = λ n r e. n (no_beginning c d g h r (sym e));
  second = λ n r e. n (sym (no_beginning d c h g r (sym e)));
}
