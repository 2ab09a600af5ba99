-- The definition rows of a table ascend, and every row that is used is one.
use Prim.Native.Nat.{ℕ, suc, ◌≤◌}
use mathlib.Core.Path.{◌≡◌, refl, sym}
use mathlib.Core.List.{List, [], ◌∷◌}
use mathlib.Core.Option.{some}
use mathlib.Core.Bool.{Bool, true, false, ◌&&◌}
use borrow.Author.Tests.{eqb-true, eq-eqb}
use native.Mathlib.Omega.{arith}
use lib.Dec.{eqb}
use Rattle.slices.specs.Bytes.{if, same}
use Rattle.document.specs.Elements.{among}
use Rattle.document.proofs.Tests.{among_there}
use Rattle.items.specs.Content.{Row, present}
use Rattle.order.specs.Types.{member_in, defines, definitions_from, definitions, name_at, first_named, is_row, counts, bears, typed, any_row, uses}
use Rattle.order.proofs.Lists.{clash, first_true, among_cases, Ascends}

pub from_below : (i : ℕ) (t : List Row) (k : ℕ) → among k (definitions_from i t) ≡ true → i ≤ k
from_below i [] k m = clash m refl
from_below i (r ∷ rs) k m = go (defines r) m (from_below (suc i) rs k)
  where
    go : (t : Bool) → among k (if t (i ∷ definitions_from (suc i) rs) (definitions_from (suc i) rs)) ≡ true → (among k (definitions_from (suc i) rs) ≡ true → suc i ≤ k) → i ≤ k
    go true m h = among_cases k i (definitions_from (suc i) rs) m (λ e. omega arith) (λ n. omega (arith, h n))
    go false m h = omega (arith, h m)

ascends_from : (i : ℕ) (t : List Row) → Ascends (definitions_from i t)
ascends_from i [] = tt
ascends_from i (r ∷ rs) = go (defines r) (ascends_from (suc i) rs)
  where
    go : (t : Bool) → Ascends (definitions_from (suc i) rs) → Ascends (if t (i ∷ definitions_from (suc i) rs) (definitions_from (suc i) rs))
    go true h = ((λ k m. omega (arith, from_below (suc i) rs k m)), h)
    go false h = h

pub definitions_ascend : (t : List Row) → Ascends (definitions t)
definitions_ascend t = ascends_from 0 t

named_from : (s : List ℕ) (i : ℕ) (t : List Row) (j : ℕ) → is_row j (first_named s i t) ≡ true → among j (definitions_from i t) ≡ true
named_from s i [] j e = clash e refl
named_from s i (r ∷ rs) j e = go (defines r) (same s (present r.name)) e (named_from s (suc i) rs j)
  where
    go : (d n : Bool) → is_row j (if (d && n) (some i) (first_named s (suc i) rs)) ≡ true → (is_row j (first_named s (suc i) rs) ≡ true → among j (definitions_from (suc i) rs) ≡ true) → among j (if d (i ∷ definitions_from (suc i) rs) (definitions_from (suc i) rs)) ≡ true
    go true true e h = first_true (eqb j i) (among j (definitions_from (suc i) rs)) (eq-eqb j i (sym (eqb-true i j e)))
    go true false e h = among_there j i (definitions_from (suc i) rs) (h e)
    go false true e h = h e
    go false false e h = h e

-- a row found under a name is a definition
pub named_listed : (t : List Row) (s : List ℕ) (j : ℕ) → is_row j (first_named s 0 t) ≡ true → among j (definitions t) ≡ true
named_listed t s j e = named_from s 0 t j e

pub used_listed : (t : List Row) (i j : ℕ) → uses t i j ≡ true → among j (definitions t) ≡ true
unfolding uses
used_listed t i j e = go (any_row (λ m. member_in i m && typed (λ tp. bears tp (name_at t j)) m.tp) t) (counts t j) refl e
  where
    go : (a c : Bool) → counts t j ≡ c → if c a false ≡ true → among j (definitions t) ≡ true
    go a true c e = named_from (name_at t j) 0 t j c
    go a false c e = clash e refl
