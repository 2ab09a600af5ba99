-- Laws of how many rows stand in a row: no more than the rows after it.
use Prim.Native.Nat.{ℕ, zero, suc, ◌+◌, ◌-◌, ◌≤◌, ◌<◌}
use native.Mathlib.Omega.{arith}
use mathlib.Core.Path.{◌≡◌, refl, ap, ◌∙◌}
use mathlib.Core.List.{List, [], ◌∷◌, map}
use mathlib.Core.Bool.{Bool, true, false, ◌&&◌}
use borrow.Author.Tests.{ne_eqb, eqb-true}
use lib.Dec.{eqb}
use lib.ListN.{length, drop}
use Rattle.slices.specs.Bytes.{if}
use Rattle.document.specs.Elements.{among}
use Rattle.document.proofs.Tests.{among_each}
use Rattle.items.specs.Words.{rows_of}
use Rattle.items.proofs.Rows.{length_rows_of}
use Rattle.trees.specs.Trees.{Forest, joined, sizes}
use Rattle.trees.specs.Shape.{Link, link_of, links_of, forest, grouped, chosen, stands, under, types, args, members, annotations, nodes}
use Rattle.trees.proofs.Zipper.{sizes_joined}

abbrev pick : Bool → ℕ → ℕ
pick true s = s
pick false s = 0

-- a kind is in one group at most
abbrev picks : ℕ → ℕ → ℕ
picks s k =
    pick (among k types) s + (pick (among k args) s + (pick (among k members) s + (pick (among k annotations) s + pick (among k nodes) s)))

kind_once : (s k : ℕ) → picks s k ≤ s
kind_once s k = go (among k types) refl
  where
    P : ℕ → Type 0
    P z = picks s z ≤ s

    last : (e : Bool) → among k types ≡ false → among k args ≡ false → among k members ≡ false → among k annotations ≡ false → among k nodes ≡ e → P k
    last true a b c d e = among_each P k nodes e (omega arith, tt)
    last false a b c d e = rw (a, b, c, d, e) (omega arith)

    fourth : (x : Bool) → among k types ≡ false → among k args ≡ false → among k members ≡ false → among k annotations ≡ x → P k
    fourth true a b c e = among_each P k annotations e (omega arith, tt)
    fourth false a b c e = last (among k nodes) a b c e refl

    third : (x : Bool) → among k types ≡ false → among k args ≡ false → among k members ≡ x → P k
    third true a b e = among_each P k members e (omega arith, (omega arith, (omega arith, (omega arith, (omega arith, (omega arith, tt))))))
    third false a b e = fourth (among k annotations) a b e refl

    second : (x : Bool) → among k types ≡ false → among k args ≡ x → P k
    second true a e = among_each P k args e (omega arith, tt)
    second false a e = third (among k members) a e refl

    go : (x : Bool) → among k types ≡ x → P k
    go true e = among_each P k types e (omega arith, (omega arith, (omega arith, (omega arith, tt))))
    go false e = second (among k args) e refl

-- the rows in all groups of parent p, from row k on
abbrev all : ℕ → ℕ → List Link → ℕ
all p k rs = sizes (grouped (λ gs. forest gs p k rs))

all_is : (p k : ℕ) (rs : List Link) → all p k rs ≡ sizes (forest types p k rs) + (sizes (forest args p k rs) + (sizes (forest members p k rs) + (sizes (forest annotations p k rs) + sizes (forest nodes p k rs))))
all_is p k rs =
    let a = forest types p k rs in
    let b = forest args p k rs in
    let c = forest members p k rs in
    let d = forest annotations p k rs in
    let e = forest nodes p k rs in
    sizes_joined a (joined b (joined c (joined d e)))
    ∙ ap (λ m. sizes a + m) (sizes_joined b (joined c (joined d e)) ∙ ap (λ m. sizes b + m) (sizes_joined c (joined d e) ∙ ap (λ m. sizes c + m) (sizes_joined d e)))

-- one row further
module _ (r : Link) (rs : List Link) (k : ℕ) where
  more_one : (b : Bool) (f : Forest ℕ) → sizes (chosen b k (λ gs. forest gs (suc k) (suc k) rs) f) ≡ pick b (suc (all (suc k) (suc k) rs)) + sizes f
  more_one true f = refl
  more_one false f = omega arith

  each : (gs : List ℕ) (p : ℕ) → sizes (forest gs p k (r ∷ rs)) ≡ pick (stands gs p r) (suc (all (suc k) (suc k) rs)) + sizes (forest gs p (suc k) rs)
  each gs p = more_one (stands gs p r) (forest gs p (suc k) rs)

  pick_and : (a c : Bool) (s : ℕ) → pick (a && c) s ≡ pick c (pick a s)
  pick_and true true s = refl
  pick_and true false s = refl
  pick_and false true s = refl
  pick_and false false s = refl

  all_one : (p : ℕ) → all p k (r ∷ rs) ≤ pick (eqb r.parent p) (suc (all (suc k) (suc k) rs)) + all p (suc k) rs
  all_one p = go (eqb r.parent p) (λ a. pick_and a (eqb r.parent p) s)
    where
      s : ℕ
      s = suc (all (suc k) (suc k) rs)

      go : (c : Bool) → ((a : Bool) → pick (a && eqb r.parent p) s ≡ pick c (pick a s)) → all p k (r ∷ rs) ≤ pick c s + all p (suc k) rs
      go true h = omega (arith, all_is p k (r ∷ rs), all_is p (suc k) rs, each types p, each args p, each members p, each annotations p, each nodes p, h (among r.kind types), h (among r.kind args), h (among r.kind members), h (among r.kind annotations), h (among r.kind nodes), kind_once s r.kind)
      go false h = omega (arith, all_is p k (r ∷ rs), all_is p (suc k) rs, each types p, each args p, each members p, each annotations p, each nodes p, h (among r.kind types), h (among r.kind args), h (among r.kind members), h (among r.kind annotations), h (among r.kind nodes))

-- parents in descending order, below b
abbrev Down : ℕ → List ℕ → Type 0
Down b [] = Unit
Down b (p ∷ ps) = (p < b) × Down p ps

down_out : (b z : ℕ) (ps : List ℕ) → Down b ps → b ≤ z → among z ps ≡ false
down_out b z [] h l = refl
down_out b z (p ∷ ps) h l = rw (ne_eqb z p (λ e. omega (arith, e, l, h.0))) (down_out p z ps h.1 (omega (arith, l, h.0)))

down_more : (b c : ℕ) (ps : List ℕ) → b ≤ c → Down b ps → Down c ps
down_more b c [] l h = tt
down_more b c (p ∷ ps) l h = (omega (arith, l, h.0), h.1)

-- the rows of several parents
abbrev sum : List ℕ → ℕ → List Link → ℕ
sum [] k rs = 0
sum (p ∷ ps) k rs = all p k rs + sum ps k rs

sum_one : (r : Link) (rs : List Link) (b k : ℕ) (ps : List ℕ) → Down b ps → sum ps k (r ∷ rs) ≤ pick (among r.parent ps) (suc (all (suc k) (suc k) rs)) + sum ps (suc k) rs
sum_one r rs b k [] h = omega arith
sum_one r rs b k (p ∷ ps) h = go (eqb r.parent p) refl (all_one r rs k p) (sum_one r rs p k ps h.1)
  where
    s : ℕ
    s = suc (all (suc k) (suc k) rs)

    go : (c : Bool) → eqb r.parent p ≡ c → all p k (r ∷ rs) ≤ pick c s + all p (suc k) rs → sum ps k (r ∷ rs) ≤ pick (among r.parent ps) s + sum ps (suc k) rs → all p k (r ∷ rs) + sum ps k (r ∷ rs) ≤ pick (if c true (among r.parent ps)) s + (all p (suc k) rs + sum ps (suc k) rs)
    go true e u v =
        let q : r.parent ≡ p = eqb-true r.parent p e in
        let o : among r.parent ps ≡ false = down_out p r.parent ps h.1 (omega (arith, q)) in
        let w : sum ps k (r ∷ rs) ≤ sum ps (suc k) rs = omega (arith, ap (λ b. pick b s) o, v) in
        omega (arith, u, w)
    go false e u v = omega (arith, u, v)

sum_none : (ps : List ℕ) (k : ℕ) → sum ps k [] ≡ 0
sum_none [] k = refl
sum_none (p ∷ ps) k = omega (arith, sum_none ps k)

sum_most : (rs : List Link) (ps : List ℕ) (k : ℕ) → Down (suc k) ps → sum ps k rs ≤ length rs
sum_most [] ps k h = omega (arith, sum_none ps k)
sum_most (r ∷ rs) ps k h =
    go (among r.parent ps) (sum_one r rs (suc k) k ps h)
    (sum_most rs (suc k ∷ ps) (suc k) (omega arith, h))
    (sum_most rs ps (suc k) (down_more (suc k) (suc (suc k)) ps (omega arith) h))
  where
    s : ℕ
    s = suc (all (suc k) (suc k) rs)

    go : (c : Bool) → sum ps k (r ∷ rs) ≤ pick c s + sum ps (suc k) rs → sum (suc k ∷ ps) (suc k) rs ≤ length rs → sum ps (suc k) rs ≤ length rs → sum ps k (r ∷ rs) ≤ suc (length rs)
    go true u a b = omega (arith, u, a)
    go false u a b = omega (arith, u, b)

length-map : {A B : Type 0} (f : A → B) (l : List A) → length (map f l) ≡ length l
length-map f [] = refl
length-map f (a ∷ l) = ap suc (length-map f l)

length-drop : {A : Type 0} (i : ℕ) (l : List A) → length (drop i l) ≡ length l - i
length-drop zero l = omega arith
length-drop (suc i) [] = omega arith
length-drop (suc i) (a ∷ l) = omega (arith, length-drop i l)

-- all rows under a row
pub under_most : (ws : List ℕ) (n i : ℕ) → i < n → sizes (under i (links_of n ws)) ≤ n - suc i
under_most ws n i h =
    omega (arith, sum_most (drop (suc i) (links_of n ws)) (suc i ∷ []) (suc i) (omega arith, tt), length-drop (suc i) (links_of n ws), length-map link_of (rows_of n ws), length_rows_of n ws)
