-- Laws of the rows that stand in a row: which are left from a row on, and how many there are.
use Prim.Native.Nat.{ℕ, zero, suc, ◌+◌, ◌-◌, ◌*◌, ◌≤◌, ◌<◌}
use native.Mathlib.Omega.{arith}
use native.Mathlib.Numerals.{add-one}
use mathlib.Core.Path.{◌≡◌, refl, ap, sym, subst, ◌∙◌}
use mathlib.Core.List.{List, [], ◌∷◌, map}
use mathlib.Core.Bool.{Bool, true, false, and-false}
use borrow.Author.Tests.{eq-eqb, ne_eqb}
use lib.Dec.{T}
use lib.ListN.{drop}
use Rattle.std.proofs.lemmas.List.{drop-map}
use Rattle.document.specs.Elements.{among}
use Rattle.items.specs.Words.{row_of, rows_of, word_at}
use Rattle.items.proofs.Rows.{row-at, row_word, rows_past}
use Rattle.trees.specs.Trees.{tree, Forest, bare, more, joined, sizes}
use Rattle.trees.specs.Shape.{link_of, links_of, forest, chosen, stands, under}
use Rattle.trees.specs.Steps.{group_kinds, group_of, child_in, NextAt, NoNext, HasChild}
use Rattle.trees.specs.Walk.{seek, later, rest}

-- ---- forests

pub joined_bare : {A : Type 0} (f : Forest A) → joined f bare ≡ f
joined_bare bare = refl
joined_bare (more t f) = ap (more t) (joined_bare f)

pub sizes_joined : {A : Type 0} (f g : Forest A) → sizes (joined f g) ≡ sizes f + sizes g
sizes_joined bare g = omega arith
sizes_joined (more t f) g = omega (arith, sizes_joined f g)

-- whether there is a tree
abbrev pub some_tree : {A : Type 0} → Forest A → Bool
some_tree bare = false
some_tree (more t f) = true

some_left : {A : Type 0} (f g : Forest A) → some_tree f ≡ true → some_tree (joined f g) ≡ true
some_left bare g h = absurd (subst T (sym h) tt)
some_left (more t f) g h = refl

some_right : {A : Type 0} (f g : Forest A) → some_tree g ≡ true → some_tree (joined f g) ≡ true
some_right bare g h = h
some_right (more t f) g h = refl

-- ---- links

module _ (ws : List ℕ) (n : ℕ) where
  link_at : (k : ℕ) → k < n → drop k (links_of n ws) ≡ link_of (row_of (drop (k * 16) ws)) ∷ drop (suc k) (links_of n ws)
  link_at k h =
      drop-map link_of k (rows_of n ws)
      ∙ ap (map link_of) (row-at n k ws h)
      ∙ ap (◌∷◌ (link_of (row_of (drop (k * 16) ws)))) (sym (drop-map link_of (suc k) (rows_of n ws)))

  links_past : drop n (links_of n ws) ≡ []
  links_past = drop-map link_of n (rows_of n ws) ∙ ap (map link_of) (rows_past n ws)

  stands_is : (g i k : ℕ) → stands (group_kinds g) (suc i) (link_of (row_of (drop (k * 16) ws))) ≡ child_in ws g i k
  stands_is g i k = rw (row_word k 0 ws, row_word k 1 ws)

  -- one row further
  seek_one : (g i k : ℕ) → k < n → seek (links_of n ws) g i k ≡ chosen (child_in ws g i k) k (λ gs. forest gs (suc k) (suc k) (drop (suc k) (links_of n ws))) (seek (links_of n ws) g i (suc k))
  seek_one g i k h =
      ap (forest (group_kinds g) (suc i) k) (link_at k h)
      ∙ ap (λ b. chosen b k (λ gs. forest gs (suc k) (suc k) (drop (suc k) (links_of n ws))) (seek (links_of n ws) g i (suc k))) (stands_is g i k)

  seek_here : (g i k : ℕ) → k < n → child_in ws g i k ≡ true → seek (links_of n ws) g i k ≡ more (tree k (under k (links_of n ws))) (seek (links_of n ws) g i (suc k))
  seek_here g i k h e =
      seek_one g i k h
      ∙ ap (λ b. chosen b k (λ gs. forest gs (suc k) (suc k) (drop (suc k) (links_of n ws))) (seek (links_of n ws) g i (suc k))) e

  seek_not : (g i k : ℕ) → k < n → child_in ws g i k ≡ false → seek (links_of n ws) g i k ≡ seek (links_of n ws) g i (suc k)
  seek_not g i k h e =
      seek_one g i k h
      ∙ ap (λ b. chosen b k (λ gs. forest gs (suc k) (suc k) (drop (suc k) (links_of n ws))) (seek (links_of n ws) g i (suc k))) e

  -- rows that are no children are passed over
  seek_over : (g i a k to : ℕ) → k + a ≡ to → to ≤ n → ((m : ℕ) → k ≤ m → m < to → child_in ws g i m ≡ false) → seek (links_of n ws) g i k ≡ seek (links_of n ws) g i to
  seek_over g i zero k to e h f =
      let q : k ≡ to = omega (arith, e) in
      ap (seek (links_of n ws) g i) q
  seek_over g i (suc a) k to e h f =
      seek_not g i k (omega (arith, e, h)) (f k (omega arith) (omega (arith, e)))
      ∙ seek_over g i a (suc k) to (omega (arith, e)) h (λ m p q. f m (omega (arith, p)) q)

  pub seek_pass : (g i k to : ℕ) → k ≤ to → to ≤ n → ((m : ℕ) → k ≤ m → m < to → child_in ws g i m ≡ false) → seek (links_of n ws) g i k ≡ seek (links_of n ws) g i to
  seek_pass g i k to l h f = seek_over g i (to - k) k to (omega (arith, l)) h f

  seek_end : (g i : ℕ) → seek (links_of n ws) g i n ≡ bare
  seek_end g i = ap (forest (group_kinds g) (suc i) n) links_past

  pub seek_none : (g i k : ℕ) → k ≤ n → ((m : ℕ) → k ≤ m → m < n → child_in ws g i m ≡ false) → seek (links_of n ws) g i k ≡ bare
  seek_none g i k l f = seek_pass g i k n l (omega arith) f ∙ seek_end g i

  pub seek_next : {s : _} {g i from k : ℕ} → NextAt ws n i g from s k → seek (links_of n ws) g i from ≡ more (tree k (under k (links_of n ws))) (seek (links_of n ws) g i (suc k))
  seek_next {g = g} {i = i} {from = from} {k = k} h =
      seek_pass g i from k h.onward (omega (arith, h.within)) h.none
      ∙ seek_here g i k h.within h.is

  -- there is a child
  seek_some : (g i a from k : ℕ) → from + a ≡ k → k < n → child_in ws g i k ≡ true → some_tree (seek (links_of n ws) g i from) ≡ true
  seek_some g i zero from k e h c =
      let q : from ≡ k = omega (arith, e) in
      ap some_tree (seek_here g i from (omega (arith, q, h)) (ap (child_in ws g i) q ∙ c))
  seek_some g i (suc a) from k e h c = go (child_in ws g i from) refl (seek_some g i a (suc from) k (omega (arith, e)) h c)
    where
      go : (b : Bool) → child_in ws g i from ≡ b → some_tree (seek (links_of n ws) g i (suc from)) ≡ true → some_tree (seek (links_of n ws) g i from) ≡ true
      go true p t = ap some_tree (seek_here g i from (omega (arith, e, h)) p)
      go false p t = ap some_tree (seek_not g i from (omega (arith, e, h)) p) ∙ t

  -- ---- what is left

  pub rest_all : (i : ℕ) → rest (links_of n ws) 0 i (suc i) ≡ under i (links_of n ws)
  unfolding rest
  rest_all i = refl

  pub rest_next : {s : _} {g i from k : ℕ} → NextAt ws n i g from s k → rest (links_of n ws) g i from ≡ more (tree k (under k (links_of n ws))) (rest (links_of n ws) g i (suc k))
  unfolding rest
  rest_next {g = g} {i = i} h = ap (λ f. joined f (later (links_of n ws) g i)) (seek_next h)

  pub rest_all_on : (i : ℕ) → rest (links_of n ws) 0 i (i + 1) ≡ under i (links_of n ws)
  rest_all_on i = ap (rest (links_of n ws) 0 i) (add-one i) ∙ rest_all i

  pub rest_next_on : {s : _} {g i from k : ℕ} → NextAt ws n i g from s k → rest (links_of n ws) g i from ≡ more (tree k (under k (links_of n ws))) (rest (links_of n ws) g i (k + 1))
  rest_next_on {g = g} {i = i} {k = k} h = rest_next h ∙ ap (λ m. more (tree k (under k (links_of n ws))) (rest (links_of n ws) g i m)) (sym (add-one k))

  pub rest_later : {s : _} {g i from e : ℕ} → g < 4 → from ≤ n → NoNext ws n i g from s e → rest (links_of n ws) g i from ≡ rest (links_of n ws) (g + 1) i (i + 1)
  unfolding rest
  rest_later {g = g} {i = i} {from = from} l w h =
      ap (λ f. joined f (later (links_of n ws) g i)) (seek_none g i from w h.none) ∙ go g l ∙ ap (λ k. rest (links_of n ws) k i (suc i)) (sym (add-one g)) ∙ ap (rest (links_of n ws) (g + 1) i) (sym (add-one i))
    where
      go : (g : ℕ) → g < 4 → later (links_of n ws) g i ≡ joined (seek (links_of n ws) (suc g) i (suc i)) (later (links_of n ws) (suc g) i)
      go zero l = refl
      go (suc zero) l = refl
      go (suc (suc zero)) l = refl
      go (suc (suc (suc zero))) l = sym (joined_bare (seek (links_of n ws) 4 i (suc i)))
      go (suc (suc (suc (suc g)))) l = absurd (omega (arith, l))

  pub rest_none : {s : _} {g i from e : ℕ} → 4 ≤ g → from ≤ n → NoNext ws n i g from s e → rest (links_of n ws) g i from ≡ bare
  unfolding rest
  rest_none {g = g} {i = i} {from = from} l w h = ap (λ f. joined f (later (links_of n ws) g i)) (seek_none g i from w h.none) ∙ go g l
    where
      go : (g : ℕ) → 4 ≤ g → later (links_of n ws) g i ≡ bare
      go zero l = absurd (omega (arith, l))
      go (suc zero) l = absurd (omega (arith, l))
      go (suc (suc zero)) l = absurd (omega (arith, l))
      go (suc (suc (suc zero))) l = absurd (omega (arith, l))
      go (suc (suc (suc (suc g)))) l = refl

  -- rows of other parents
  no_child : (g i m : ℕ) → (word_at ws m 1 ≡ suc i → ⊥) → child_in ws g i m ≡ false
  no_child g i m h = rw (ne_eqb (word_at ws m 1) (suc i) h) (and-false (among (word_at ws m 0) (group_kinds g)))

  pub rest_pass : (g i k to : ℕ) → k ≤ to → to ≤ n → ((m : ℕ) → k ≤ m → m < to → word_at ws m 1 ≡ suc i → ⊥) → rest (links_of n ws) g i k ≡ rest (links_of n ws) g i to
  unfolding rest
  rest_pass g i k to l h f = ap (λ t. joined t (later (links_of n ws) g i)) (seek_pass g i k to l h (λ m p q. no_child g i m (f m p q)))

  -- ---- whether there is a child

  childless : {i : ℕ} {r : Bool} → i < n → HasChild ws n i r → r ≡ false → (g : ℕ) → seek (links_of n ws) g i (suc i) ≡ bare
  childless {i} l h e g = seek_none g i (suc i) l (λ m p q. no_child g i m (h.none e m p q))

  pub under_none : {i : ℕ} {r : Bool} → i < n → HasChild ws n i r → r ≡ false → under i (links_of n ws) ≡ bare
  under_none {i} l h e =
      rw (childless l h e 0, childless l h e 1, childless l h e 2, childless l h e 3, childless l h e 4)

  pub under_some : {i : ℕ} {r : Bool} → ((k : ℕ) → k < n → among (word_at ws k 0) (group_kinds (group_of (word_at ws k 0))) ≡ true) → HasChild ws n i r → r ≡ true → some_tree (under i (links_of n ws)) ≡ true
  under_some {i} all h e =
      let p = h.some e in
      let k = p.0 in
      let c : child_in ws (group_of (word_at ws k 0)) i k ≡ true = rw (all k p.2, eq-eqb (word_at ws k 1) (suc i) p.3) in
      go (group_of (word_at ws k 0)) k c (seek_some (group_of (word_at ws k 0)) i (k - suc i) (suc i) k (omega (arith, p.1)) p.2 c)
    where
      one : Forest ℕ
      one = seek (links_of n ws) 1 i (suc i)

      two : Forest ℕ
      two = seek (links_of n ws) 2 i (suc i)

      three : Forest ℕ
      three = seek (links_of n ws) 3 i (suc i)

      four : Forest ℕ
      four = seek (links_of n ws) 4 i (suc i)

      go : (g k : ℕ) → child_in ws g i k ≡ true → some_tree (seek (links_of n ws) g i (suc i)) ≡ true → some_tree (under i (links_of n ws)) ≡ true
      go zero k c t = some_left (seek (links_of n ws) 0 i (suc i)) (later (links_of n ws) 0 i) t
      go (suc zero) k c t = some_right (seek (links_of n ws) 0 i (suc i)) (later (links_of n ws) 0 i) (some_left one (later (links_of n ws) 1 i) t)
      go (suc (suc zero)) k c t = some_right (seek (links_of n ws) 0 i (suc i)) (later (links_of n ws) 0 i) (some_right one (later (links_of n ws) 1 i) (some_left two (later (links_of n ws) 2 i) t))
      go (suc (suc (suc zero))) k c t = some_right (seek (links_of n ws) 0 i (suc i)) (later (links_of n ws) 0 i) (some_right one (later (links_of n ws) 1 i) (some_right two (later (links_of n ws) 2 i) (some_left three four t)))
      go (suc (suc (suc (suc zero)))) k c t = some_right (seek (links_of n ws) 0 i (suc i)) (later (links_of n ws) 0 i) (some_right one (later (links_of n ws) 1 i) (some_right two (later (links_of n ws) 2 i) (some_right three four t)))
      go (suc (suc (suc (suc (suc g))))) k c t = absurd (subst T (sym c) tt)
