-- Each written item is one element, and is read as its rows, with no warning.
use Prim.Native.Nat.{ℕ, suc, ◌+◌, ◌≤◌}
use native.Mathlib.Omega.{arith}
use mathlib.Core.Path.{◌≡◌, refl, ap, ◌∙◌}
use mathlib.Core.List.{List, [], ◌∷◌, ◌++◌, map, map-append, append_assoc, append-nil}
use mathlib.Core.Option.{Option, none, some}
use mathlib.Core.Bool.{Bool, true, false}
use lib.ListN.{length, length-append, length-map}
use Rattle.slices.specs.Bytes.{bytes}
use Rattle.names.specs.Names.{member_name}
use Rattle.names.specs.Signature.{signature}
use Rattle.document.specs.Kinds as kinds
use Rattle.document.specs.Rows.{Warning}
use Rattle.document.specs.Tokens.{start}
use Rattle.document.specs.Elements.{kind_of, may_hold, opens_as}
use Rattle.document.specs.Reading.{Name, Frame, element, begins, step}
use Rattle.items.specs.Content as shown
use Rattle.items.specs.Written.{Pair, Annotation, Arg, Direction, no-direction, inward, outward, Member, Item, annotated, argument, method, signal, named, arg_pairs, written_annotation, written_arg, written_member, written}
use Rattle.roundtrip.specs.Items.{code, bare_row, annotation_row, annotation_rows, arg_row, arg_rows, args_rows, member_rows, rows}
use Rattle.roundtrip.proofs.Tags.{Keys, tag_at}
use Rattle.roundtrip.proofs.Held.{keeps, Row, marked, inside}
use Rattle.roundtrip.proofs.Elements.{Element, Children, childless, child, name_from, entered, Opens, an_element}

abbrev annotation_pairs : Annotation → List Pair
annotation_pairs a = named a.name ∷ record { key = bytes "value"; value = a.value } ∷ []

-- in an element of kind k with row i, where an annotation may stand
module _ (k : ℕ) (h : may_hold k kinds.annotation ≡ true) (n : Name) (i : ℕ) (fs : List Frame) (ws : List Warning) where
  annotation_enters : (a : Annotation) (rs : List Row) (doc : List ℕ) (at : ℕ) (self : Bool) → step keeps doc (inside (element k n i ∷ fs) rs ws) (start (tag_at at (bytes "annotation") (annotation_pairs a) self)) ≡ entered kinds.annotation (bytes "annotation") at self (marked (annotation_row (suc i) a)) (element k n i ∷ fs) rs ws
  unfolding step kind_of begins opens_as
  annotation_enters a rs doc at true = rw h
  annotation_enters a rs doc at false = rw h

  annotation_opens : (a : Annotation) (rs : List Row) → Opens kinds.annotation (bytes "annotation") (annotation_pairs a) (inside (element k n i ∷ fs) rs ws) (marked (annotation_row (suc i) a)) (element k n i ∷ fs) rs ws
  annotation_opens a rs = record { name = (refl, refl, refl, refl); keys = (refl, refl, (refl, refl, tt)); few = omega arith; enters = annotation_enters a rs }

  annotation_element : (a : Annotation) (rs : List Row) → Element (written_annotation a) (inside (element k n i ∷ fs) rs ws) (inside (element k n i ∷ fs) (rs ++ marked (annotation_row (suc i) a) ∷ []) ws)
  annotation_element a rs = an_element (annotation_opens a rs) [] (λ at. childless)

  annotations : (xs : List Annotation) (rs : List Row) → Children (element k n i ∷ fs) ws (map written_annotation xs) rs (rs ++ map marked (annotation_rows (suc i) xs))
  annotations [] rs = rw append-nil childless
  annotations (a ∷ xs) rs = child (annotation_element a rs).passes (rw append_assoc at (annotations xs (rs ++ marked (annotation_row (suc i) a) ∷ [])))

arg_keys : (m : Option (List ℕ)) (t : List ℕ) (d : Direction) → Keys [] (arg_pairs m t d) × (length (arg_pairs m t d) ≤ 256)
arg_keys none t no-direction = ((refl, refl, tt), omega arith)
arg_keys none t inward = ((refl, refl, (refl, refl, tt)), omega arith)
arg_keys none t outward = ((refl, refl, (refl, refl, tt)), omega arith)
arg_keys (some m) t no-direction = ((refl, refl, (refl, refl, tt)), omega arith)
arg_keys (some m) t inward = ((refl, refl, (refl, refl, (refl, refl, tt))), omega arith)
arg_keys (some m) t outward = ((refl, refl, (refl, refl, (refl, refl, tt))), omega arith)

-- the arguments of a member that are read: each has a signature
abbrev pub Signed : List Arg → Type 0
Signed [] = Unit {0}
Signed (a ∷ xs) = (signature a.type ≡ true) × Signed xs

regroup : (rs : List Row) (x y z : List shown.Row) → (rs ++ map marked x) ++ map marked (y ++ z) ≡ rs ++ map marked ((x ++ y) ++ z)
regroup rs x y z = simp (map-append, append_assoc)

-- in an element of kind k with row i, where an arg may stand
module _ (k : ℕ) (h : may_hold k kinds.arg ≡ true) (n : Name) (i : ℕ) (fs : List Frame) (ws : List Warning) where
  arg_enters : (m : Option (List ℕ)) (t : List ℕ) (d : Direction) → signature t ≡ true → (rs : List Row) (doc : List ℕ) (at : ℕ) (self : Bool) → step keeps doc (inside (element k n i ∷ fs) rs ws) (start (tag_at at (bytes "arg") (arg_pairs m t d) self)) ≡ entered kinds.arg (bytes "arg") at self (marked (bare_row kinds.arg (suc i) m (some t) (code d))) (element k n i ∷ fs) rs ws
  unfolding step kind_of begins opens_as
  arg_enters none t no-direction e rs doc at true = rw (h, e)
  arg_enters none t no-direction e rs doc at false = rw (h, e)
  arg_enters none t inward e rs doc at true = rw (h, e)
  arg_enters none t inward e rs doc at false = rw (h, e)
  arg_enters none t outward e rs doc at true = rw (h, e)
  arg_enters none t outward e rs doc at false = rw (h, e)
  arg_enters (some m) t no-direction e rs doc at true = rw (h, e)
  arg_enters (some m) t no-direction e rs doc at false = rw (h, e)
  arg_enters (some m) t inward e rs doc at true = rw (h, e)
  arg_enters (some m) t inward e rs doc at false = rw (h, e)
  arg_enters (some m) t outward e rs doc at true = rw (h, e)
  arg_enters (some m) t outward e rs doc at false = rw (h, e)

  arg_opens : (a : Arg) → signature a.type ≡ true → (rs : List Row) → Opens kinds.arg (bytes "arg") (arg_pairs a.name a.type a.direction) (inside (element k n i ∷ fs) rs ws) (marked (arg_row (suc i) a)) (element k n i ∷ fs) rs ws
  arg_opens a e rs = record {
    name = (refl, refl, refl, refl);
    keys = (arg_keys a.name a.type a.direction).0;
    few = (arg_keys a.name a.type a.direction).1;
    enters = arg_enters a.name a.type a.direction e rs;
  }

  arg_element : (a : Arg) → signature a.type ≡ true → (rs : List Row) → Element (written_arg a) (inside (element k n i ∷ fs) rs ws) (inside (element k n i ∷ fs) (rs ++ map marked (arg_rows (suc i) (length rs) a)) ws)
  unfolding may_hold
  arg_element a e rs =
      rw append_assoc at
      (an_element (arg_opens a e rs) (map written_annotation a.annotations) (λ at. annotations kinds.arg refl (name_from at (bytes "arg")) (length rs) (element k n i ∷ fs) ws a.annotations (rs ++ marked (arg_row (suc i) a) ∷ [])))

  arguments : may_hold k kinds.annotation ≡ true → (xs : List Arg) (ys : List Annotation) → Signed xs → (rs : List Row) → Children (element k n i ∷ fs) ws (map written_arg xs ++ map written_annotation ys) rs (rs ++ map marked (args_rows (suc i) (length rs) xs ++ annotation_rows (suc i) ys))
  arguments o [] ys e rs = annotations k o n i fs ws ys rs
  arguments o (a ∷ xs) ys e rs = child (arg_element a e.0 rs).passes (rw (more_rows) at (arguments o xs ys e.1 (rs ++ map marked own)))
    where
      own : List shown.Row
      own = arg_rows (suc i) (length rs) a

      more_rows : (rs ++ map marked own) ++ map marked (args_rows (suc i) (length (rs ++ map marked own)) xs ++ annotation_rows (suc i) ys) ≡ rs ++ map marked (args_rows (suc i) (length rs) (a ∷ xs) ++ annotation_rows (suc i) ys)
      more_rows =
          let l : length (rs ++ map marked own) ≡ length rs + length own = length-append rs (map marked own) ∙ ap (λ m. length rs + m) (length-map own marked) in
          rw l (regroup rs own (args_rows (suc i) (length rs + length own) xs) (annotation_rows (suc i) ys))

-- what a reader takes: a member's name, its args' signatures
abbrev pub Good : Item → Type 0
Good (annotated a) = Unit {0}
Good (argument a) = signature a.type ≡ true
Good (method m) = (member_name m.name ≡ true) × Signed m.args
Good (signal m) = (member_name m.name ≡ true) × Signed m.args

-- in an element of kind k with row i
module _ (k : ℕ) (n : Name) (i : ℕ) (fs : List Frame) (ws : List Warning) where
  method_opens : may_hold k kinds.method ≡ true → (m : List ℕ) → member_name m ≡ true → (rs : List Row) → Opens kinds.method (bytes "method") (named m ∷ []) (inside (element k n i ∷ fs) rs ws) (marked (bare_row kinds.method (suc i) (some m) none 0)) (element k n i ∷ fs) rs ws
  method_opens h m e rs = record { name = (refl, refl, refl, refl); keys = (refl, refl, tt); few = omega arith; enters = enters }
    where
      enters : (doc : List ℕ) (at : ℕ) (self : Bool) → step keeps doc (inside (element k n i ∷ fs) rs ws) (start (tag_at at (bytes "method") (named m ∷ []) self)) ≡ entered kinds.method (bytes "method") at self (marked (bare_row kinds.method (suc i) (some m) none 0)) (element k n i ∷ fs) rs ws
      enters doc at true = unfold step kind_of begins opens_as in rw (h, e)
      enters doc at false = unfold step kind_of begins opens_as in rw (h, e)

  signal_opens : may_hold k kinds.signal ≡ true → (m : List ℕ) → member_name m ≡ true → (rs : List Row) → Opens kinds.signal (bytes "signal") (named m ∷ []) (inside (element k n i ∷ fs) rs ws) (marked (bare_row kinds.signal (suc i) (some m) none 0)) (element k n i ∷ fs) rs ws
  signal_opens h m e rs = record { name = (refl, refl, refl, refl); keys = (refl, refl, tt); few = omega arith; enters = enters }
    where
      enters : (doc : List ℕ) (at : ℕ) (self : Bool) → step keeps doc (inside (element k n i ∷ fs) rs ws) (start (tag_at at (bytes "signal") (named m ∷ []) self)) ≡ entered kinds.signal (bytes "signal") at self (marked (bare_row kinds.signal (suc i) (some m) none 0)) (element k n i ∷ fs) rs ws
      enters doc at true = unfold step kind_of begins opens_as in rw (h, e)
      enters doc at false = unfold step kind_of begins opens_as in rw (h, e)

  member_element : (c : ℕ) → may_hold c kinds.arg ≡ true → may_hold c kinds.annotation ≡ true → (t : List ℕ) (m : Member) → Signed m.args → (rs : List Row) → Opens c t (named m.name ∷ []) (inside (element k n i ∷ fs) rs ws) (marked (bare_row c (suc i) (some m.name) none 0)) (element k n i ∷ fs) rs ws → Element (written_member t m) (inside (element k n i ∷ fs) rs ws) (inside (element k n i ∷ fs) (rs ++ map marked (member_rows c (suc i) (length rs) m)) ws)
  member_element c args notes t m e rs o =
      rw (snoc_rows) at (an_element o (map written_arg m.args ++ map written_annotation m.annotations) (λ at. arguments c args (name_from at t) (length rs) (element k n i ∷ fs) ws notes m.args m.annotations e (rs ++ own ∷ [])))
    where
      own : Row
      own = marked (bare_row c (suc i) (some m.name) none 0)

      snoc_rows : (rs ++ own ∷ []) ++ map marked (args_rows (suc (length rs)) (length (rs ++ own ∷ [])) m.args ++ annotation_rows (suc (length rs)) m.annotations) ≡ rs ++ map marked (member_rows c (suc i) (length rs) m)
      snoc_rows = let l : length (rs ++ own ∷ []) ≡ suc (length rs) = omega (arith, length-append rs (own ∷ [])) in rw (append_assoc, l)

abbrev pub kind : Item → ℕ
kind (annotated a) = kinds.annotation
kind (argument a) = kinds.arg
kind (method m) = kinds.method
kind (signal m) = kinds.signal

-- what is written is read wherever it may stand, whatever follows
pub item_element : (k : ℕ) (c : Item) → may_hold k (kind c) ≡ true → Good c → (n : Name) (i : ℕ) (fs : List Frame) (rs : List Row) (ws : List Warning) → Element (written c) (inside (element k n i ∷ fs) rs ws) (inside (element k n i ∷ fs) (rs ++ map marked (rows (suc i) (length rs) c)) ws)
unfolding may_hold
item_element k (annotated a) h g n i fs rs ws = annotation_element k h n i fs ws a rs
item_element k (argument a) h g n i fs rs ws = arg_element k h n i fs ws a g rs
item_element k (method m) h g n i fs rs ws = member_element k n i fs ws kinds.method refl refl (bytes "method") m g.1 rs (method_opens k n i fs ws h m.name g.0 rs)
item_element k (signal m) h g n i fs rs ws = member_element k n i fs ws kinds.signal refl refl (bytes "signal") m g.1 rs (signal_opens k n i fs ws h m.name g.0 rs)
