-- A tree has at most as many elements as the table has rows: each row stands in one row at most.
use Prim.Native.Nat.{ℕ, zero, suc, ◌+◌, ◌≤◌, ◌<◌}
use native.Mathlib.Omega.{arith}
use mathlib.Core.Path.{◌≡◌, refl, ap}
use mathlib.Core.List.{List, [], ◌∷◌}
use mathlib.Core.Bool.{Bool, true, false, and-false}
use borrow.Author.Tests.{eqb-true, ne_eqb}
use lib.Dec.{eqb}
use lib.ListN.{length, drop, length-map}
use Rattle.slices.proofs.Runs.{and_both}
use Rattle.document.specs.Elements.{among}
use Rattle.items.specs.Words.{rows_of}
use Rattle.items.proofs.Rows.{length_rows_of}
use Rattle.trees.specs.Trees.{Tree, tree, Forest, bare, more, joined, map_tree, map_forest, size, sizes}
use Rattle.trees.specs.Shape.{Link, link_of, links_of, grouped, stands, forest, shape_at, types, args, members, annotations, nodes}
use Rattle.trees.specs.Written.{element_at, tree_at}
use Rattle.trees_read.proofs.SoundTrees.{Apart, apart}

mutual
  pub size_map : {A B : Type 0} (g : A → B) (t : Tree A) → size (map_tree g t) ≡ size t
  size_map g (tree a f) = ap suc (sizes_map g f)

  pub sizes_map : {A B : Type 0} (g : A → B) (f : Forest A) → sizes (map_forest g f) ≡ sizes f
  sizes_map g bare = refl
  sizes_map g (more t f) = λ j. size_map g t j + sizes_map g f j

sizes_joined : (f g : Forest ℕ) → sizes (joined f g) ≡ sizes f + sizes g
sizes_joined bare g = omega arith
sizes_joined (more t f) g = omega (arith, sizes_joined f g)

-- rows of some kinds in some row
record Place : Type 0 where
  group : List ℕ
  parent : ℕ

abbrev at : Place → Link → Bool
at q r = stands q.group q.parent r

-- r is in none of the places
abbrev Nowhere : Link → List Place → Type 0
Nowhere r [] = Unit {0}
Nowhere r (q ∷ qs) = (at q r ≡ false) × Nowhere r qs

-- a row is in one of the places at most
abbrev Distinct : List Place → Type 0
Distinct [] = Unit {0}
Distinct (q ∷ qs) = ((r : Link) → at q r ≡ true → Nowhere r qs) × Distinct qs

-- all parents come before row k
abbrev Before : ℕ → List Place → Type 0
Before k [] = Unit {0}
Before k (q ∷ qs) = (q.parent ≤ k) × Before k qs

-- the elements of the forests of the places
abbrev total : List Place → ℕ → List Link → ℕ
total [] k rs = 0
total (q ∷ qs) k rs = sizes (forest q.group q.parent k rs) + total qs k rs

abbrev places_in : ℕ → List Place → List Place
places_in p qs =
    record { group = types; parent = p }
    ∷ record { group = args; parent = p }
    ∷ record { group = members; parent = p }
    ∷ record { group = annotations; parent = p }
    ∷ record { group = nodes; parent = p }
    ∷ qs

-- the forest of a place, with row k or without
with_row : (r : Link) (q : Place) (k : ℕ) (rs : List Link) → at q r ≡ true → sizes (forest q.group q.parent k (r ∷ rs)) ≡ suc (sizes (grouped (λ gs. forest gs (suc k) (suc k) rs))) + sizes (forest q.group q.parent (suc k) rs)
with_row r q k rs h = rw h

without_row : (r : Link) (q : Place) (k : ℕ) (rs : List Link) → at q r ≡ false → sizes (forest q.group q.parent k (r ∷ rs)) ≡ sizes (forest q.group q.parent (suc k) rs)
without_row r q k rs h = rw h

sizes_grouped : (g : List ℕ → Forest ℕ) → sizes (grouped g) ≡ sizes (g types) + (sizes (g args) + (sizes (g members) + (sizes (g annotations) + sizes (g nodes))))
sizes_grouped g = simp sizes_joined

total_in : (p : ℕ) (qs : List Place) (k : ℕ) (rs : List Link) → total (places_in p qs) k rs ≡ sizes (grouped (λ gs. forest gs p k rs)) + total qs k rs
total_in p qs k rs = omega (arith, sizes_grouped (λ gs. forest gs p k rs))

no_row : (r : Link) (qs : List Place) (k : ℕ) (rs : List Link) → Nowhere r qs → total qs k (r ∷ rs) ≡ total qs (suc k) rs
no_row r [] k rs h = refl
no_row r (q ∷ qs) k rs h = λ j. without_row r q k rs h.0 j + no_row r qs k rs h.1 j

-- at most one forest has row k
one_row : (r : Link) (qs : List Place) (k : ℕ) (rs : List Link) → Distinct qs → total qs k (r ∷ rs) ≤ suc (total (places_in (suc k) qs) (suc k) rs)
one_row r [] k rs d = omega arith
one_row r (q ∷ qs) k rs d = go (at q r) refl (one_row r qs k rs d.1)
  where
    go : (b : Bool) → at q r ≡ b → total qs k (r ∷ rs) ≤ suc (total (places_in (suc k) qs) (suc k) rs) → total (q ∷ qs) k (r ∷ rs) ≤ suc (total (places_in (suc k) (q ∷ qs)) (suc k) rs)
    go true h i = omega (arith, with_row r q k rs h, no_row r qs k rs (d.0 r h), total_in (suc k) (q ∷ qs) (suc k) rs)
    go false h i = omega (arith, without_row r q k rs h, total_in (suc k) (q ∷ qs) (suc k) rs, total_in (suc k) qs (suc k) rs)

other : (ks js : List ℕ) (p : ℕ) (r : Link) → Apart js ks → stands ks p r ≡ true → stands js p r ≡ false
other ks js p r a h = rw (apart js ks a r.kind (and_both (among r.kind ks) (eqb r.parent p) h).0)

nowhere_before : (k : ℕ) (qs : List Place) (r : Link) → Before k qs → r.parent ≡ suc k → Nowhere r qs
nowhere_before k [] r b e = tt
nowhere_before k (q ∷ qs) r b e = (rw (ne_eqb r.parent q.parent (λ z. omega arith), and-false (among r.kind q.group)), nowhere_before k qs r b.1 e)

later : (k : ℕ) (qs : List Place) → Before k qs → Before (suc k) qs
later k [] b = tt
later k (q ∷ qs) b = (omega arith, later k qs b.1)

distinct_in : (k : ℕ) (qs : List Place) → Distinct qs → Before k qs → Distinct (places_in (suc k) qs)
distinct_in k qs d b = (
  (λ r h. (other types args (suc k) r (refl, (refl, (refl, (refl, tt)))) h, (other types members (suc k) r (refl, (refl, (refl, (refl, tt)))) h, (other types annotations (suc k) r (refl, (refl, (refl, (refl, tt)))) h, (other types nodes (suc k) r (refl, (refl, (refl, (refl, tt)))) h, far types r h))))),
  (
    (λ r h. (other args members (suc k) r (refl, tt) h, (other args annotations (suc k) r (refl, tt) h, (other args nodes (suc k) r (refl, tt) h, far args r h)))),
    (
      (λ r h. (other members annotations (suc k) r (refl, (refl, (refl, (refl, (refl, (refl, tt)))))) h, (other members nodes (suc k) r (refl, (refl, (refl, (refl, (refl, (refl, tt)))))) h, far members r h))),
      ((λ r h. (other annotations nodes (suc k) r (refl, tt) h, far annotations r h)), ((λ r h. far nodes r h), d)),
    ),
  ),
)
  where
    far : (ks : List ℕ) (r : Link) → stands ks (suc k) r ≡ true → Nowhere r qs
    far ks r h = nowhere_before k qs r b (eqb-true r.parent (suc k) (and_both (among r.kind ks) (eqb r.parent (suc k)) h).1)

total_none : (qs : List Place) (k : ℕ) → total qs k [] ≡ 0
total_none [] k = refl
total_none (q ∷ qs) k = omega (arith, total_none qs k)

-- so all of them together have at most as many elements as there are rows
within : (rs : List Link) (qs : List Place) (k : ℕ) → Distinct qs → Before k qs → total qs k rs ≤ length rs
within [] qs k d b = omega (arith, total_none qs k)
within (r ∷ rs) qs k d b =
    let i = within rs (places_in (suc k) qs) (suc k) (distinct_in k qs d b) (omega arith, (omega arith, (omega arith, (omega arith, (omega arith, later k qs b))))) in
    omega (arith, one_row r qs k rs d)

-- the tree of row 0
pub tree_size : (document text ws : List ℕ) (n : ℕ) → 0 < n → size (tree_at document text ws n 0) ≤ n
unfolding shape_at
tree_size document text ws zero h = absurd (omega arith)
tree_size document text ws (suc m) h =
    let rs = links_of m (drop 16 ws) in
    let i = within rs (places_in 1 []) 1 (distinct_in 0 [] tt tt) (omega arith, (omega arith, (omega arith, (omega arith, (omega arith, tt))))) in
    omega (arith, total_in 1 [] 1 rs, sizes_map (element_at document text ws) (grouped (λ gs. forest gs 1 1 rs)), length-map (rows_of m (drop 16 ws)) link_of, length_rows_of m (drop 16 ws))
