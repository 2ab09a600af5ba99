-- Steps in an open element: a written start tag, a closing tag, a docstring; and what a definition has seen of its parts.
use Prim.Native.Nat.{ℕ, suc, ◌≤◌}
use native.Mathlib.Omega.{arith}
use mathlib.Core.Path.{◌≡◌, refl, ap, sym, ◌∙◌}
use mathlib.Core.List.{List, [], ◌∷◌, ◌++◌}
use mathlib.Core.Bool.{Bool, true, false, or-false}
use borrow.Author.Tests.{ne_eqb}
use lib.Dec.{eqb}
use lib.ListN.{length}
use Rattle.slices.specs.Bytes.{if}
use Rattle.slices.proofs.Runs.{same_self}
use Rattle.document.specs.Kinds as kinds
use Rattle.document.specs.Tokens.{Tag, start, close}
use Rattle.document.specs.Elements.{among, kind_of, may_hold}
use Rattle.document.specs.Reading as reading
use Rattle.document.specs.Reading.{Parts, Frame, parts_reason, noted, closed, shut, too_deep, entered, begins, docstring_in, child, parent_of, step}
use Rattle.items.specs.Content.{present}
use Rattle.roundtrip.proofs.Tags.{tag_at}
use Rattle.roundtrip.proofs.Held.{keeps, Row, marked, table, inside}
use Rattle.roundtrip.proofs.Elements.{name_from}
use Rattle.trees.specs.Trees.{Tree, tree, Forest, bare, more}
use Rattle.trees.specs.Written.{Element, tag_of, doc_tag}
use Rattle.accepted.proofs.Members.{only_members}
use Rattle.trees_read.proofs.Good as good
use Rattle.trees_read.proofs.Good.{kind_in, Goods}
use Rattle.trees_read.proofs.Runs.{catching}
use Rattle.trees_read.proofs.Shapes.{Known}
use Rattle.trees_read.proofs.Entering.{bare_for, framed_by, framed, no_parts, plus, start_at, Enters, tag_kind, no_docstring}

-- ---- parts

-- what is seen when an element has been read, and all trees of a forest
abbrev pub plus_if : Element → Parts → Parts
plus_if e p = if (among e.kind kinds.parts) (plus e p) p

abbrev pub element_in : Tree Element → Element
element_in (tree e f) = e

abbrev pub parts_after : Forest Element → Parts → Parts
parts_after bare p = p
parts_after (more t f) p = parts_after f (plus_if (element_in t) p)

broken_one : (e : Element) (p : Parts) → (plus_if e p).broken ≡ p.broken
broken_one e p = go (among e.kind kinds.parts)
  where
    go : (b : Bool) → (if b (plus e p) p).broken ≡ p.broken
    go true = or-false p.broken
    go false = refl

broken_after : (f : Forest Element) (p : Parts) → (parts_after f p).broken ≡ p.broken
broken_after bare p = refl
broken_after (more t f) p = broken_after f (plus_if (element_in t) p) ∙ broken_one (element_in t) p

count_one : (e : Element) (p : Parts) → p.count ≤ (plus_if e p).count
count_one e p = go (among e.kind kinds.parts)
  where
    go : (b : Bool) → p.count ≤ (if b (plus e p) p).count
    go true = omega arith
    go false = omega arith

count_after : (f : Forest Element) (p : Parts) → p.count ≤ (parts_after f p).count
count_after bare p = omega arith
count_after (more t f) p = omega (arith, count_after f (plus_if (element_in t) p), count_one (element_in t) p)

member_part : (c : ℕ) → c ≡ kinds.member → among c kinds.parts ≡ true
member_part c e = rw e

value_in : (t : Tree Element) → good.value_in t ≡ present (element_in t).value
value_in (tree e f) = refl

one_member : (k : ℕ) (t : Tree Element) (p : Parts) → among k (kinds.struct ∷ kinds.mapping ∷ []) ≡ true → may_hold k (kind_in t) ≡ true → (plus_if (element_in t) p ≡ plus (element_in t) p) × ((element_in t).kind ≡ kinds.member)
one_member k (tree e f) p h m =
    let z = only_members k e.kind h m in
    (rw (member_part e.kind z), z)

struct_good : (k d : ℕ) (f : Forest Element) → among k (kinds.struct ∷ kinds.mapping ∷ []) ≡ true → Goods d k f → good.any_tree f ≡ true → eqb (parts_after f no_parts).count 0 ≡ false
struct_good k d bare h g a = cc
struct_good k d (more t f) h g a =
    let e = (one_member k t no_parts h g.0).0 in
    let c : (plus_if (element_in t) no_parts).count ≡ 1 = ap (λ p. p.count) e in
    ne_eqb (parts_after (more t f) no_parts).count 0 (λ z. omega (arith, c, z, count_after f (plus_if (element_in t) no_parts)))

mapping_good : (k d : ℕ) (f : Forest Element) → among k (kinds.struct ∷ kinds.mapping ∷ []) ≡ true → Goods d k f → good.keyed_in f ≡ true → (eqb (parts_after f no_parts).count 2 ≡ true) × ((parts_after f no_parts).basic ≡ true)
mapping_good k d bare h g a = let z : ◌≡◌ {A = ℕ} 0 1 = cc in absurd (omega arith)
mapping_good k d (more t bare) h g a = let z : ◌≡◌ {A = ℕ} 0 1 = cc in absurd (omega arith)
mapping_good k d (more t (more u bare)) h g a =
    let x = one_member k t no_parts h g.0 in
    let y = one_member k u (plus (element_in t) no_parts) h g.2.0 in
    let v = value_in t in
    (rw (x.0, y.0), rw (x.0, y.0, x.1, ← v) a)
mapping_good k d (more t (more u (more v f))) h g a = let z : ◌≡◌ {A = ℕ} 0 1 = cc in absurd (omega arith)

-- a definition that has the parts that it needs is not left out
pub parts_good : (k d : ℕ) (f : Forest Element) → Goods d k f → good.complete k f ≡ true → parts_reason k (parts_after f no_parts) ≡ 0
parts_good k d f g c = go (eqb k kinds.struct) refl (eqb k kinds.mapping) refl c
  where
    q : Parts
    q = parts_after f no_parts

    go : (a : Bool) → eqb k kinds.struct ≡ a → (b : Bool) → eqb k kinds.mapping ≡ b → if a (good.any_tree f) (if b (good.keyed_in f) true) ≡ true → parts_reason k q ≡ 0
    go true e b i c = rw (broken_after f no_parts, e, struct_good k d f (rw e) g c)
    go false e true i c = let m = mapping_good k d f (rw (e, i)) g c in rw (broken_after f no_parts, e, i, m.0, m.1)
    go false e false i c = rw (broken_after f no_parts, e, i)

-- ---- steps

module _ (doc : List ℕ) where
  shut_framed : (b : Bool) (k : ℕ) (n : reading.Name) (a i : ℕ) (p : Parts) (gs : List Frame) (rs : List Row) (lt : ℕ) → parts_reason k p ≡ 0 → shut doc (framed_by b k n a i p) gs (table rs []) lt ≡ closed gs (table rs [])
  shut_framed true k n a i p gs rs lt e = rw e
  shut_framed false k n a i p gs rs lt e = refl

  pub close_framed : (b : Bool) (k : ℕ) (n : reading.Name) (a i : ℕ) (p : Parts) (gs : List Frame) (rs : List Row) (lt q : ℕ) → parts_reason k p ≡ 0 → step keeps doc (inside (framed_by b k n a i p ∷ gs) rs []) (close lt n.bytes q) ≡ closed gs (table rs [])
  unfolding step
  close_framed true k n a i p gs rs lt q e = rw (same_self n.bytes) (shut_framed true k n a i p gs rs lt e)
  close_framed false k n a i p gs rs lt q e = rw (same_self n.bytes)

  step_child : (b : Bool) (k : ℕ) (n : reading.Name) (a i : ℕ) (p : Parts) (fs : List Frame) (rs : List Row) (t : Tag) → step keeps doc (inside (framed_by b k n a i p ∷ fs) rs []) (start t) ≡ child keeps doc k i t (framed_by b k n a i p ∷ fs) (table rs [])
  unfolding step
  step_child true k n a i p fs rs t = refl
  step_child false k n a i p fs rs t = refl

  parent_framed : (b : Bool) (k : ℕ) (n : reading.Name) (a i : ℕ) (p : Parts) (fs : List Frame) → parent_of (framed_by b k n a i p ∷ fs) ≡ suc i
  parent_framed true k n a i p fs = refl
  parent_framed false k n a i p fs = refl

  -- a docstring's start tag
  pub docstring_start : (b : Bool) (k : ℕ) (n : reading.Name) (a i : ℕ) (p : Parts) (fs : List Frame) (rs : List Row) (at : ℕ) → eqb k kinds.annotation ≡ false → step keeps doc (inside (framed_by b k n a i p ∷ fs) rs []) (start (tag_at at doc_tag [] false)) ≡ inside (catching at i ∷ framed_by b k n a i p ∷ fs) rs []
  unfolding kind_of docstring_in
  docstring_start b k n a i p fs rs at h = step_child b k n a i p fs rs (tag_at at doc_tag [] false) ∙ rw h

  -- ---- a start tag

  module _ (e : Element) (h : Known e.kind) (x : Enters e) (at : ℕ) where
    noted_framed : (self : Bool) (b : Bool) (k : ℕ) (n : reading.Name) (a i : ℕ) (p : Parts) (fs : List Frame) → noted e.kind (start_at at e self) (framed_by b k n a i p ∷ fs) ≡ framed_by b k n a i (plus_if e p) ∷ fs
    noted_framed self b k n a i p fs = go (among e.kind kinds.parts) refl b
      where
        go : (c : Bool) → among e.kind kinds.parts ≡ c → (b : Bool) → noted e.kind (start_at at e self) (framed_by b k n a i p ∷ fs) ≡ framed_by b k n a i (plus_if e p) ∷ fs
        go true m true = rw (m, x.part at self p m)
        go true m false = rw m
        go false m true = rw m
        go false m false = rw m

    abbrev pub own : List Row → Frame
    own rs = framed e.kind (name_from at (tag_of e.kind)) at (length rs) no_parts

    entered_self : (r : Row) (fs gs : List Frame) (rs : List Row) → noted e.kind (start_at at e true) fs ≡ gs → parts_reason e.kind no_parts ≡ 0 → entered keeps doc e.kind (start_at at e true) r fs (table rs []) ≡ closed gs (table (rs ++ r ∷ []) [])
    entered_self r fs gs rs m e0 =
        rw (x.frame at true (length rs), m)
        (shut_framed (among e.kind kinds.definitions) e.kind (name_from at (tag_of e.kind)) at (length rs) no_parts gs (rs ++ r ∷ []) 0 e0)

    entered_open : (r : Row) (fs gs : List Frame) (rs : List Row) → noted e.kind (start_at at e false) fs ≡ gs → too_deep keeps doc e.kind fs ≡ false → entered keeps doc e.kind (start_at at e false) r fs (table rs []) ≡ inside (own rs ∷ gs) (rs ++ r ∷ []) []
    entered_open r fs gs rs m d = rw (x.frame at false (length rs), m, d)

    begins_entered : (self : Bool) (fs : List Frame) (rs : List Row) → begins keeps doc e.kind (start_at at e self) fs (table rs []) ≡ entered keeps doc e.kind (start_at at e self) (marked (bare_for (parent_of fs) e)) fs (table rs [])
    unfolding begins
    begins_entered self fs rs = rw (x.opened (parent_of fs) at self)

    child_begins : (self : Bool) (k i : ℕ) (fs : List Frame) (rs : List Row) → may_hold k e.kind ≡ true → child keeps doc k i (start_at at e self) fs (table rs []) ≡ begins keeps doc e.kind (start_at at e self) fs (table rs [])
    child_begins self k i fs rs m = rw (tag_kind h, no_docstring h, m)

    -- in an open element
    module _ (k : ℕ) (n : reading.Name) (a i : ℕ) (p : Parts) (fs : List Frame) (rs : List Row) (m : may_hold k e.kind ≡ true) where
      abbrev row : Row
      row = marked (bare_for (suc i) e)

      start_entered : (self : Bool) → step keeps doc (inside (framed k n a i p ∷ fs) rs []) (start (start_at at e self)) ≡ entered keeps doc e.kind (start_at at e self) row (framed k n a i p ∷ fs) (table rs [])
      start_entered self =
          let b = among k kinds.definitions in
          step_child b k n a i p fs rs (start_at at e self)
          ∙ child_begins self k i (framed k n a i p ∷ fs) rs m
          ∙ begins_entered self (framed k n a i p ∷ fs) rs
          ∙ ap (λ q. entered keeps doc e.kind (start_at at e self) (marked (bare_for q e)) (framed k n a i p ∷ fs) (table rs [])) (parent_framed b k n a i p fs)

      pub start_self : parts_reason e.kind no_parts ≡ 0 → step keeps doc (inside (framed k n a i p ∷ fs) rs []) (start (start_at at e true)) ≡ inside (framed k n a i (plus_if e p) ∷ fs) (rs ++ row ∷ []) []
      start_self e0 =
          start_entered true
          ∙ entered_self row (framed k n a i p ∷ fs) (framed k n a i (plus_if e p) ∷ fs) rs (noted_framed true (among k kinds.definitions) k n a i p fs) e0

      pub start_open : too_deep keeps doc e.kind (framed k n a i p ∷ fs) ≡ false → step keeps doc (inside (framed k n a i p ∷ fs) rs []) (start (start_at at e false)) ≡ inside (own rs ∷ framed k n a i (plus_if e p) ∷ fs) (rs ++ row ∷ []) []
      start_open d =
          start_entered false
          ∙ entered_open row (framed k n a i p ∷ fs) (framed k n a i (plus_if e p) ∷ fs) rs (noted_framed false (among k kinds.definitions) k n a i p fs) d

    -- the root
    module _ (is : e.kind ≡ kinds.node) where
      root_noted : (self : Bool) → noted e.kind (start_at at e self) [] ≡ []
      root_noted self = go (among e.kind kinds.parts)
        where
          go : (b : Bool) → ◌≡◌ {A = List Frame} (if b [] []) []
          go true = refl
          go false = refl

      root_begins : (self : Bool) → step keeps doc reading.begun (start (start_at at e self)) ≡ begins keeps doc e.kind (start_at at e self) [] (table [] [])
      unfolding step
      root_begins self = ap (λ k. begins keeps doc k (start_at at e self) [] (table [] [])) (sym is)

      pub root_self : parts_reason e.kind no_parts ≡ 0 → step keeps doc reading.begun (start (start_at at e true)) ≡ closed [] (table (marked (bare_for 0 e) ∷ []) [])
      root_self e0 = root_begins true ∙ begins_entered true [] [] ∙ entered_self (marked (bare_for 0 e)) [] [] [] (root_noted true) e0

      root_shallow : too_deep keeps doc e.kind [] ≡ false
      root_shallow = rw is

      pub root_open : step keeps doc reading.begun (start (start_at at e false)) ≡ inside (own [] ∷ []) (marked (bare_for 0 e) ∷ []) []
      root_open = root_begins false ∙ begins_entered false [] [] ∙ entered_open (marked (bare_for 0 e)) [] [] [] (root_noted false) root_shallow
