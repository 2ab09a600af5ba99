-- The children of a row, in rows one after another.
use Prim.Native.Nat.{ℕ, suc, ◌+◌}
use native.Mathlib.Omega.{arith}
use native.Mathlib.Nat.{add-zero}
use mathlib.Core.Path.{◌≡◌, refl, ap}
use mathlib.Core.List.{List, [], ◌∷◌, ◌++◌}
use mathlib.Core.Bool.{Bool, true, false}
use lib.ListN.{length}
use Rattle.slices.specs.Bytes.{if}
use Rattle.document.specs.Kinds as kinds
use Rattle.items.specs.Words.{is_child}
use Rattle.items.specs.Content.{Row, annotation_of, annotations, arg_of, args}

pub annotations_append : (p : ℕ) (l m : List Row) → annotations p (l ++ m) ≡ annotations p l ++ annotations p m
annotations_append p [] m = refl
annotations_append p (r ∷ l) m = go (is_child kinds.annotation p r.kind r.parent) (annotations_append p l m)
  where
    go : (b : Bool) → annotations p (l ++ m) ≡ annotations p l ++ annotations p m → if b (annotation_of r ∷ annotations p (l ++ m)) (annotations p (l ++ m)) ≡ if b (annotation_of r ∷ annotations p l) (annotations p l) ++ annotations p m
    go true e = ap (◌∷◌ (annotation_of r)) e
    go false e = e

pub args_append : (t : List Row) (p i : ℕ) (l m : List Row) → args t p i (l ++ m) ≡ args t p i l ++ args t p (i + length l) m
args_append t p i [] m = rw add-zero
args_append t p i (r ∷ l) m =
    let e : suc i + length l ≡ i + suc (length l) = omega arith in
    go (is_child kinds.arg p r.kind r.parent) (rw e at (args_append t p (suc i) l m))
  where
    go : (b : Bool) → args t p (suc i) (l ++ m) ≡ args t p (suc i) l ++ args t p (i + suc (length l)) m → if b (arg_of t i r ∷ args t p (suc i) (l ++ m)) (args t p (suc i) (l ++ m)) ≡ if b (arg_of t i r ∷ args t p (suc i) l) (args t p (suc i) l) ++ args t p (i + suc (length l)) m
    go true e = ap (◌∷◌ (arg_of t i r)) e
    go false e = e
