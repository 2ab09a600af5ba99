-- Tests in definitions: what holds of both ways, what is among some numbers, and what holds of each of them.
use Prim.Native.Nat.{ℕ}
use mathlib.Core.Path.{◌≡◌, refl, subst, sym}
use mathlib.Core.List.{List, [], ◌∷◌, ◌++◌}
use mathlib.Core.Bool.{Bool, true, false}
use borrow.Author.Tests.{eqb-true}
use native.Mathlib.Omega.{arith}
use lib.Dec.{eqb}
use Rattle.slices.specs.Bytes.{if, all}
use Rattle.slices.proofs.Runs.{both}
use Rattle.document.specs.Elements.{among}

pub never : {A : Type 0} → false ≡ true → A
never e = let z : ◌≡◌ {A = ℕ} 0 1 = cc in absurd (omega arith)

pub either : {A : Type 0} (P : A → Type 0) (t : Bool) {x y : A} → (t ≡ true → P x) → (t ≡ false → P y) → P (if t x y)
either P true f g = f refl
either P false f g = g refl

-- of two values that are chosen by the same test
pub pairwise : {A B : Type 0} (P : A → B → Type 0) (t : Bool) {x y : A} {z w : B} → (t ≡ true → P x z) → (t ≡ false → P y w) → P (if t x y) (if t z w)
pairwise P true f g = f refl
pairwise P false f g = g refl

-- one among some numbers is among more, and one among two lists
pub among_there : (k x : ℕ) (xs : List ℕ) → among k xs ≡ true → among k (x ∷ xs) ≡ true
among_there k x xs e = either (λ (t : Bool). t ≡ true) (eqb k x) (λ t. refl) (λ t. e)

pub among_append : (k : ℕ) (xs ys : List ℕ) → among k (xs ++ ys) ≡ if (among k xs) true (among k ys)
among_append k [] ys = refl
among_append k (x ∷ xs) ys = go (eqb k x) (among_append k xs ys)
  where
    go : (t : Bool) → among k (xs ++ ys) ≡ if (among k xs) true (among k ys) → if t true (among k (xs ++ ys)) ≡ if (if t true (among k xs)) true (among k ys)
    go true i = refl
    go false i = i

abbrev pub Each : (ℕ → Type 0) → List ℕ → Type 0
Each P [] = Unit {0}
Each P (x ∷ xs) = P x × Each P xs

-- what holds of each of some numbers holds of one among them
pub among_each : (P : ℕ → Type 0) (k : ℕ) (xs : List ℕ) → among k xs ≡ true → Each P xs → P k
among_each P k [] e h = never e
among_each P k (x ∷ xs) e h = go (eqb k x) refl e (λ f. among_each P k xs f h.1)
  where
    go : (t : Bool) → eqb k x ≡ t → if t true (among k xs) ≡ true → (among k xs ≡ true → P k) → P k
    go true f e i = subst P (sym (eqb-true k x f)) h.0
    go false f e i = i e

pub among_all : (q : ℕ → Bool) (k : ℕ) (xs : List ℕ) → all q xs ≡ true → among k xs ≡ true → q k ≡ true
among_all q k xs h e = among_each (λ x. q x ≡ true) k xs e (go xs h)
  where
    go : (xs : List ℕ) → all q xs ≡ true → Each (λ x. q x ≡ true) xs
    go [] h = tt
    go (x ∷ xs) h = let t = both (q x) (all q xs) h in (t.0, go xs t.1)
