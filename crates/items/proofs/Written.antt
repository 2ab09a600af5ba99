-- Attributes and texts that are written one after another.
use Prim.Native.Nat.{ℕ}
use mathlib.Core.Path.{◌≡◌, refl, ap, sym, ◌∙◌}
use mathlib.Core.List.{List, [], ◌∷◌, ◌++◌, append_assoc}
use Rattle.items.specs.Written.{Pair, pair, pairs, concat}

pub pairs-append : (ps qs : List Pair) → pairs (ps ++ qs) ≡ pairs ps ++ pairs qs
pairs-append [] qs = refl
pairs-append (p ∷ ps) qs = ap (◌++◌ (pair p.key p.value)) (pairs-append ps qs) ∙ sym (append_assoc (pair p.key p.value) (pairs ps) (pairs qs))

pub concat-append : (xs ys : List (List ℕ)) → concat (xs ++ ys) ≡ concat xs ++ concat ys
concat-append [] ys = refl
concat-append (x ∷ xs) ys = ap (◌++◌ x) (concat-append xs ys) ∙ sym (append_assoc x (concat xs) (concat ys))
