-- Trees: something, and the trees that stand in it, in order.
use Rattle.std.specs.Prelude.{ℕ, suc, ◌+◌}

mutual
  pub data Tree (A : Type 0) : Type 0 where
    tree : A → Forest A → Tree A

  pub data Forest (A : Type 0) : Type 0 where
    bare : Forest A
    more : Tree A → Forest A → Forest A

module _ {A : Type 0} where
  abbrev pub joined : Forest A → Forest A → Forest A
  joined bare f = f
  joined (more t e) f = more t (joined e f)

abbrev mutual
  pub map_tree : {A B : Type 0} → (A → B) → Tree A → Tree B
  map_tree g (tree a f) = tree (g a) (map_forest g f)

  pub map_forest : {A B : Type 0} → (A → B) → Forest A → Forest B
  map_forest g bare = bare
  map_forest g (more t f) = more (map_tree g t) (map_forest g f)

-- how many there are
abbrev mutual
  pub size : {A : Type 0} → Tree A → ℕ
  size (tree a f) = suc (sizes f)

  pub sizes : {A : Type 0} → Forest A → ℕ
  sizes bare = 0
  sizes (more t f) = size t + sizes f
