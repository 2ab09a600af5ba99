-- Laws of a certificate: where numbers fall along uses there is no circle before a row; and places that are certified are the order.
use Prim.Native.Nat.{ℕ, zero, suc, ◌+◌, ◌≤◌, ◌<◌}
use mathlib.Core.Path.{◌≡◌, sym, ap, ◌∙◌}
use mathlib.Core.List.{List}
use mathlib.Core.Bool.{Bool, true, false}
use native.Mathlib.Nat.{zero-add}
use native.Mathlib.Omega.{arith}
use lib.ListN.{length, get_or, take, drop}
use lib.Seq.{drop-cons}
use Rattle.utf8.proofs.Sequences.{below}
use Rattle.document.specs.Elements.{among}
use Rattle.order.specs.Relation.{without, order, Chain, one, more}
use Rattle.order.proofs.Lists.{clash, refuted, without_among, among_without, Ascends}
use Rattle.order.proofs.Taking.{Picked, Gives}
use Rattle.order.proofs.Determined.{nothing, taken_is}

-- ---- numbers

module _ (uses : ℕ → ℕ → Bool) (c : ℕ → ℕ) (p : ℕ) (most : (i j : ℕ) → uses i j ≡ true → c j ≤ c i) (less : (i j : ℕ) → uses i j ≡ true → i < p → c j < c i) where
  chain_most : {i j : ℕ} → Chain uses i j → c j ≤ c i
  chain_most {i} {j} (one e) = most i j e
  chain_most {i} {j} (more {j = m} e f) = omega (arith, most i m e, chain_most f)

  chain_less : {i j : ℕ} → Chain uses i j → i < p → c j < c i
  chain_less {i} {j} (one e) h = less i j e h
  chain_less {i} {j} (more {j = m} e f) h = omega (arith, less i m e h, chain_most f)

  -- a row on a circle is p or greater
  pub circle_past : (q : ℕ) → Chain uses q q → p ≤ q
  circle_past q f = below q p (λ l. absurd (omega (arith, chain_less f l))) (λ l. l)

-- ---- places

-- the row at place k: listed, with that number; a run of smaller rows from s k on stands before it; and it was not ready before that
pub record At (uses : ℕ → ℕ → Bool) (rows : List ℕ) (c s : ℕ → ℕ) (out : List ℕ) (k : ℕ) : Type 0 where
  pub listed : among (get_or out k 0) rows ≡ true
  pub numbered : c (get_or out k 0) ≡ k
  pub run : (j : ℕ) → s k ≤ j → j < k → get_or out j 0 < get_or out k 0
  pub ready : (i : ℕ) → ((j : ℕ) → uses (get_or out k 0) j ≡ true → c j < i) → s k ≤ i

module _ (uses : ℕ → ℕ → Bool) (rows : List ℕ) (listed : (i j : ℕ) → uses i j ≡ true → among j rows ≡ true) (c s : ℕ → ℕ) (out : List ℕ) (count : ℕ) (room : count ≤ length out) (falls : (i j : ℕ) → among i rows ≡ true → uses i j ≡ true → c j < c i) (here : (k : ℕ) → k < count → At uses rows c s out k) (stands : (r : ℕ) → among r rows ≡ true → (c r < count) × (get_or out (c r) 0 ≡ r)) where
  -- the rows left at place k are those with numbers from k on
  record Left (k : ℕ) (left : List ℕ) : Type 0 where
    pub to : (r : ℕ) → among r left ≡ true → (among r rows ≡ true) × (k ≤ c r)
    pub from : (r : ℕ) → among r rows ≡ true → k ≤ c r → among r left ≡ true

  module _ (k : ℕ) (l : k < count) (left : List ℕ) (h : Left k left) where
    least : (r : ℕ) → among r left ≡ true → ((j : ℕ) → uses r j ≡ true → among j left ≡ false) → get_or out k 0 ≤ r
    least r m f =
        let q = h.to r m in
        let z = stands r q.0 in
        let a = here (c r) z.0 in
        let e : get_or out (c r) 0 ≡ r = z.1 in
        let before : (j : ℕ) → uses r j ≡ true → c j < k = λ j u.
        below (c j) k (λ o. o) (λ o. clash (h.from j (listed r j u) o) (f j u)) in
        below k (c r)
        (λ o. let y = a.run k (a.ready k (rw (sym e) at before)) o in omega (arith, y, e))
        (λ o. let y : c r ≡ k = omega (arith, q.1) in let x : get_or out k 0 ≡ r = rw y at e in omega (arith, x))

    picked : Picked uses left (get_or out k 0)
    picked = record {
      listed = h.from (get_or out k 0) (here k l).listed (omega (arith, (here k l).numbered));
      ready = λ j u. refuted (among j left) (λ m. omega (arith, (h.to j m).1, falls (get_or out k 0) j (here k l).listed u, (here k l).numbered));
      least = least;
    }

    next : Left (suc k) (without (get_or out k 0) left)
    next = record {
      to = λ r m.
          let w = without_among (get_or out k 0) r left m in
          let q = h.to r w.0 in (
            q.0,
            below k (c r) (λ o. omega arith) (λ o.
                let y : c r ≡ k = omega (arith, q.1) in
                absurd (w.1 (sym (stands r q.0).1 ∙ ap (λ (z : ℕ). get_or out z 0) y))),
          );
      from = λ r m o. among_without (get_or out k 0) r left (h.from r m (omega arith)) (λ e.
          omega (arith, (here k l).numbered, ap c e, o));
    }

  gives : (m k : ℕ) → k + m ≡ count → (left : List ℕ) → Left k left → Gives uses left (take m (drop k out))
  gives zero k e left h = nothing left (λ r. refuted (among r left) (λ m.
      let q = h.to r m in omega (arith, q.1, (stands r q.0).0)))
  gives (suc m) k e left h =
      let o : k < length out = omega arith in
      let g : Picked uses left (get_or out k 0) × Gives uses (without (get_or out k 0) left) (take m (drop (suc k) out)) =
      (picked k (omega arith) left h, gives m (suc k) (omega arith) (without (get_or out k 0) left) (next k (omega arith) left h)) in
      rw (drop-cons out k 0 o) g

  pub places_order : Ascends rows → order uses rows ≡ take count out
  unfolding order
  places_order a = taken_is uses (take count out) rows (length rows) (omega arith) a (gives count 0 (zero-add count) rows record { to = λ r m. (m, omega arith); from = λ r m o. m })
