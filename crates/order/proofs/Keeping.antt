-- Laws of words lent for work, and of edges in them.
use Prim.Native.Nat.{ℕ, zero, suc, ◌+◌, ◌-◌, ◌≤◌, ◌<◌}
use mathlib.Core.Path.{◌≡◌, refl, ap, ◌∙◌}
use mathlib.Core.List.{List, [], ◌∷◌}
use borrow.Author.Rules.{rules}
use borrow.Author.Tests.{eq-eqb, ne_eqb}
use native.Mathlib.Omega.{arith}
use lib.Dec.{eqb}
use Rattle.slices.specs.Bytes.{if}
use lib.ListN.{length, get_or}
use Rattle.std.specs.Prelude.{Option as Maybe, None, Some, SomeIff}
use Rattle.tables.specs.Table.{Wiped, cleared}
use Rattle.items.specs.Words.{Word}
use Rattle.items.proofs.Words.{word_in}
use Rattle.order.specs.Index.{Indexed}
use Rattle.order.specs.Certificate.{Got, Kept, IsParent, member_of, MemberOf, run_of, RunIs}
use Rattle.order.proofs.Indexing.{indexed_kept}
use Rattle.order.proofs.Waiting.{row_held, held_within}

-- ---- the row that a row is in

pub parent_none : {d x ws : List ℕ} {n m : ℕ} → IsParent d x ws n m None
parent_none = record { is = λ i e. absurd (cc); within = λ i e. absurd (cc) }

pub parent_some : {d x ws : List ℕ} {n m k u : ℕ} {r : Maybe ℕ} → Word ws m 1 k → SomeIff r (1 ≤ k) (k - 1) → r ≡ Some u → u < n → IsParent d x ws n m (Some u)
parent_some {d} {x} {ws} {n} {m} {k} {u} {r} w s e l = go r s e
  where
    go : (o : Maybe ℕ) → SomeIff o (1 ≤ k) (k - 1) → o ≡ Some u → IsParent d x ws n m (Some u)
    go None s e = absurd (cc)
    go (Some j) s e =
        let z : j ≡ u = cc in
        record {
          is = λ i h. let y : u ≡ i = cc in omega (arith, word_in w, s.0, s.1);
          within = λ i h. let y : u ≡ i = cc in omega arith;
        }

pub ruleset parents = (parent_none, parent_some, row_held, rules)

-- ---- words that are kept

pub kept_indexed : {d x ws heads work work' : List ℕ} {n : ℕ} → Indexed d x ws n heads work → Kept n work work' → Indexed d x ws n heads work'
kept_indexed l k = indexed_kept l k.long k.below

cleared_length : (n : ℕ) (l : List ℕ) → length (cleared n l) ≡ length l
cleared_length n [] = refl
cleared_length zero (a ∷ l) = ap suc (cleared_length zero l)
cleared_length (suc n) (a ∷ l) = ap suc (cleared_length n l)

cleared_below : (n j : ℕ) (l : List ℕ) → j < n → get_or (cleared n l) j 0 ≡ get_or l j 0
cleared_below n j [] h = refl
cleared_below zero j (a ∷ l) h = absurd (omega arith)
cleared_below (suc n) zero (a ∷ l) h = refl
cleared_below (suc n) (suc j) (a ∷ l) h = cleared_below n j l (omega arith)

pub indexed_cleared : {d x ws heads work work' : List ℕ} {n : ℕ} → Indexed d x ws n heads work → Wiped n work work' → Indexed d x ws n heads work'
indexed_cleared {work = work} {work' = work'} {n = n} l z =
    kept_indexed l record {
      long = ap length z.is ∙ cleared_length n work;
      below = λ j h. ap (λ (l : List ℕ). get_or l j 0) z.is ∙ cleared_below n j work h;
    }

pub ruleset candidates = (indexed_cleared, held_within, rules)

-- ---- runs

pub run_none : {work : List ℕ} {n r e : ℕ} → Got work (n + n + r) e → e ≡ 0 → RunIs n work r 0
unfolding run_of
run_none {work} {n} {r} {e} g z = record { is = rw (← g.is, eq-eqb e 0 z); most = omega arith }

pub run_noted : {work : List ℕ} {n r e m s : ℕ} → Got work (n + n + r) e → (e ≡ 0 → ⊥) → MemberOf e m → Got work (n + m) s → RunIs n work r s
unfolding run_of
run_noted {work} {n} {r} {e} {m} {s} g z q f = record { is = f.is ∙ rw (← g.is, ne_eqb e 0 z, q.is); most = f.most }

-- a run that does not begin at the first place has an edge
pub run_some : (work : List ℕ) (n r : ℕ) → 0 < run_of n work r → 0 < get_or work (n + n + r) 0
unfolding run_of
run_some work n r h = go (get_or work (n + n + r) 0) refl h
  where
    go : (e : ℕ) → get_or work (n + n + r) 0 ≡ e → 0 < if (eqb e 0) 0 (get_or work (n + member_of e) 0) → 0 < get_or work (n + n + r) 0
    go zero q l = absurd (omega arith)
    go (suc e) q l = omega arith

pub ruleset runs = (run_none, run_noted, rules)
