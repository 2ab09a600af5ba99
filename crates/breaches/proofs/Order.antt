-- The lesser of two places, in any order and grouping; the least of some places and some more.
use Prim.Native.Nat.{ℕ}
use mathlib.Core.Path.{◌≡◌, refl, ap, sym, ◌∙◌}
use mathlib.Core.List.{List, [], ◌∷◌, ◌++◌}
use borrow.Author.Rules.{rules}
use native.Mathlib.Omega.{arith}
use Rattle.std.specs.Prelude.{min, Option, Some, None}
use Rattle.breaches.specs.Least.{lesser, least}

pub lesser_none : (a : Option ℕ) → lesser a None ≡ a
unfolding lesser
lesser_none None = refl
lesser_none (Some p) = refl

pub none_lesser : (a : Option ℕ) → lesser None a ≡ a
unfolding lesser
none_lesser a = refl

pub lesser_comm : (a b : Option ℕ) → lesser a b ≡ lesser b a
unfolding lesser
lesser_comm None None = refl
lesser_comm None (Some q) = refl
lesser_comm (Some p) None = refl
lesser_comm (Some p) (Some q) = ap Some (omega arith)

pub lesser_assoc : (a b c : Option ℕ) → lesser (lesser a b) c ≡ lesser a (lesser b c)
unfolding lesser
lesser_assoc None b c = refl
lesser_assoc (Some p) None c = refl
lesser_assoc (Some p) (Some q) None = refl
lesser_assoc (Some p) (Some q) (Some r) = ap Some (omega arith)

-- the second and the third change places
pub lesser_four : (a b c d : Option ℕ) → lesser (lesser a b) (lesser c d) ≡ lesser (lesser a c) (lesser b d)
lesser_four a b c d =
    lesser_assoc a b (lesser c d)
    ∙ ap (lesser a) (sym (lesser_assoc b c d) ∙ ap (λ (x : Option ℕ). lesser x d) (lesser_comm b c) ∙ lesser_assoc c b d)
    ∙ sym (lesser_assoc a c (lesser b d))

-- the first and the second change places
pub lesser_swap : (a b c : Option ℕ) → lesser a (lesser b c) ≡ lesser b (lesser a c)
lesser_swap a b c = sym (lesser_assoc a b c) ∙ ap (λ (x : Option ℕ). lesser x c) (lesser_comm a b) ∙ lesser_assoc b a c

pub least_append : (xs ys : List ℕ) → least (xs ++ ys) ≡ lesser (least xs) (least ys)
unfolding least lesser
least_append [] ys = refl
least_append (x ∷ xs) ys = ap (lesser (Some x)) (least_append xs ys) ∙ sym (lesser_assoc (Some x) (least xs) (least ys))

-- by what the two are
module _ {a b : Option ℕ} where
  pub first-none : a ≡ None → b ≡ lesser a b
  unfolding lesser
  first-none e = rw e refl

  pub second_none : {p : ℕ} → a ≡ Some p → b ≡ None → Some p ≡ lesser a b
  unfolding lesser
  second_none e f = rw (e, f) refl

  pub both_some : {p q m : ℕ} → a ≡ Some p → b ≡ Some q → m ≡ min p q → Some m ≡ lesser a b
  unfolding lesser
  both_some e f h = rw (e, f) (ap Some h)

pub ruleset lessers = (first-none, second_none, both_some, rules)
