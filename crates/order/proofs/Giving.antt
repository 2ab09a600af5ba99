-- Laws of giving rows out: the loop, and the words that the rows are put into.
use Prim.Native.Nat.{ℕ, zero, suc, ◌+◌, ◌≤◌, ◌<◌}
use mathlib.Core.Path.{◌≡◌, refl, sym, ap, ◌∙◌}
use mathlib.Core.List.{List, [], ◌∷◌, ◌++◌, append-nil, append_assoc}
use mathlib.Core.Bool.{Bool, true, false, not}
use borrow.Author.Rules.{rules}
use borrow.Author.Tests.{eqb-false}
use native.Mathlib.Omega.{arith}
use lib.Dec.{eqb}
use lib.ListN.{length, get_or, set, replicate, length-set}
use lib.Seq.{get_or-set_same, get_or-set_other}
use Rattle.std.specs.Prelude.{Option as Maybe, None, Some}
use Rattle.slices.specs.Bytes.{if}
use Rattle.slices.proofs.Runs.{if_true}
use Rattle.tables.specs.Table.{Rep, Put}
use Rattle.tables.proofs.Tables.{empty_stands}
use Rattle.document.specs.Elements.{among}
use Rattle.document.proofs.Tests.{among_append}
use Rattle.items.specs.Words.{rows_shown}
use Rattle.items.specs.Content.{Row}
use Rattle.order.specs.Relation.{without, taken_from, order}
use Rattle.order.specs.Types.{defines, definitions_from, definitions, uses}
use Rattle.order.specs.Steps.{Held, unmarked, left_in, NextReady, Blank, Marks, GivenOut}
use Rattle.order.proofs.Lists.{clash, Ascends, without_count}
use Rattle.order.proofs.Loop.{keep_all, keep_without, keep_ascends, taken_next, taken_stop}
use Rattle.order.proofs.Tables.{definitions_ascend}
use Rattle.order.proofs.Waiting.{length_shown}

few_from : (i : ℕ) (t : List Row) → length (definitions_from i t) ≤ length t
few_from i [] = omega arith
few_from i (r ∷ t) = go (defines r) (few_from (suc i) t)
  where
    go : (b : Bool) → length (definitions_from (suc i) t) ≤ length t → length (if b (i ∷ definitions_from (suc i) t) (definitions_from (suc i) t)) ≤ suc (length t)
    go true h = omega arith
    go false h = omega arith

-- there are at most as many definitions as rows
pub definitions_few : (d x ws : List ℕ) (n : ℕ) → length (definitions (rows_shown d x ws n)) ≤ n
definitions_few d x ws n = omega (arith, few_from 0 (rows_shown d x ws n), length_shown d x ws n)

-- ---- a mark more

module _ (t : List Row) (marks : List Bool) where
  pub left_ascends : Ascends (left_in t marks)
  unfolding left_in
  left_ascends = keep_ascends (unmarked marks) (definitions t) (definitions_ascend t)

  pub left_all : ((k : ℕ) → get_or marks k false ≡ false) → left_in t marks ≡ definitions t
  unfolding left_in
  left_all h = keep_all (unmarked marks) (definitions t) (λ k m. ap not (h k))

  pub left_marked : (i : ℕ) → i < length marks → left_in t (set marks i true) ≡ without i (left_in t marks)
  unfolding left_in
  left_marked i l =
      sym
      (keep_without (unmarked marks) (unmarked (set marks i true)) i (definitions t)
      (rw (get_or-set_same marks i true false l))
      (λ k n. rw (get_or-set_other marks i k true false n)))

-- ---- the loop: xs are given out, and the rest of the order is taken from the rows left

pub record Giving (d x ws : List ℕ) (n room : ℕ) (marks : List Bool) (out : List ℕ) (c : ℕ) : Type 0 where
  pub xs : List ℕ
  pub stands : Rep 1 out c xs
  pub is : order (uses (rows_shown d x ws n)) (definitions (rows_shown d x ws n)) ≡ xs ++ taken_from (uses (rows_shown d x ws n)) (length (left_in (rows_shown d x ws n) marks)) (left_in (rows_shown d x ws n) marks)
  pub count : c + length (left_in (rows_shown d x ws n) marks) ≡ length (definitions (rows_shown d x ws n))
  pub marked : (k : ℕ) → get_or marks k false ≡ true → among k xs ≡ true
  pub long : length marks ≡ 262144
  pub same : length out ≡ room

pub giving_begins : {d x ws : List ℕ} {n : ℕ} {marks : List Bool} {out : List ℕ} → Blank marks → length marks ≡ 262144 → Giving d x ws n (length out) marks out 0
unfolding order
giving_begins {d} {x} {ws} {n} {marks} {out} b l = record {
  xs = [];
  stands = empty_stands 1 out;
  is = rw (left_all (rows_shown d x ws n) marks b.none);
  count = omega (arith, ap length (left_all (rows_shown d x ws n) marks b.none));
  marked = λ k f. clash f (b.none k);
  long = l;
  same = refl;
}

module _ {d x ws : List ℕ} {n room : ℕ} {marks : List Bool} {out : List ℕ} {c : ℕ} (g : Giving d x ws n room marks out c) where
  pub giving_ends : {r : Maybe ℕ} → NextReady (rows_shown d x ws n) n marks r → r ≡ None → GivenOut (rows_shown d x ws n) marks out c
  giving_ends q h =
      let e : order (uses (rows_shown d x ws n)) (definitions (rows_shown d x ws n)) ≡ g.xs =
      g.is
      ∙ ap (λ (r : List ℕ). g.xs ++ r) (taken_stop (uses (rows_shown d x ws n)) (length (left_in (rows_shown d x ws n) marks)) (left_in (rows_shown d x ws n) marks) (q.none h))
      ∙ append-nil g.xs in
      record { stands = rw e g.stands; marked = λ k f. rw e (g.marked k f) }

  module _ {i : ℕ} {r : Maybe ℕ} (q : NextReady (rows_shown d x ws n) n marks r) (l : r ≡ Some i) where
    one_less : suc (length (without i (left_in (rows_shown d x ws n) marks))) ≡ length (left_in (rows_shown d x ws n) marks)
    one_less = without_count i (left_in (rows_shown d x ws n) marks) (left_ascends (rows_shown d x ws n) marks) (q.some i l).listed

    falls : i < length marks → length (left_in (rows_shown d x ws n) (set marks i true)) < length (left_in (rows_shown d x ws n) marks)
    falls h = omega (arith, one_less, ap length (left_marked (rows_shown d x ws n) marks i h))

    gives : {out' : List ℕ} {c' : ℕ} → i < length marks → Put 1 (i ∷ []) c out out' c' → length out' ≡ length out → Giving d x ws n room (set marks i true) out' c'
    gives {out'} {c'} h p o = record {
      xs = g.xs ++ (i ∷ []);
      stands = p.stands g.xs g.stands;
      is =
          g.is
          ∙ ap (λ (m : ℕ). g.xs ++ taken_from (uses (rows_shown d x ws n)) m (left_in (rows_shown d x ws n) marks)) (sym one_less)
          ∙ ap (λ (r : List ℕ). g.xs ++ r) (taken_next (uses (rows_shown d x ws n)) (length (without i (left_in (rows_shown d x ws n) marks))) (left_in (rows_shown d x ws n) marks) (left_ascends (rows_shown d x ws n) marks) i (q.some i l))
          ∙ sym (append_assoc g.xs (i ∷ []) (taken_from (uses (rows_shown d x ws n)) (length (without i (left_in (rows_shown d x ws n) marks))) (without i (left_in (rows_shown d x ws n) marks))))
          ∙ ap (λ (r : List ℕ). (g.xs ++ (i ∷ [])) ++ taken_from (uses (rows_shown d x ws n)) (length r) r) (sym (left_marked (rows_shown d x ws n) marks i h));
      count = omega (arith, p.counts, g.count, one_less, ap length (left_marked (rows_shown d x ws n) marks i h));
      marked = λ k f. rw (among_append k g.xs (i ∷ [])) (go k (eqb k i) refl f);
      long = length-set marks i true ∙ g.long;
      same = o ∙ g.same;
    }
      where
        go : (k : ℕ) (b : Bool) → eqb k i ≡ b → get_or (set marks i true) k false ≡ true → if (among k g.xs) true (if b true false) ≡ true
        go k true b f = if_true (among k g.xs)
        go k false b f = rw (g.marked k (sym (get_or-set_other marks i k true false (eqb-false k i b)) ∙ f))

    -- what the loop asks for
    pub giving_row : Held ws n → i ≤ 262144
    giving_row h = omega (arith, q.within i l, h.few)

    module _ (h : Held ws n) where
      pub giving_count : c ≤ 262144
      giving_count = omega (arith, g.count, definitions_few d x ws n, h.few)

      pub giving_place : i < 262144
      giving_place = omega (arith, q.within i l, h.few)

      module _ {marks' : List Bool} (m : Marks i marks marks') where
        pub giving_falls : length (left_in (rows_shown d x ws n) marks') < length (left_in (rows_shown d x ws n) marks)
        giving_falls = rw m.is (falls (omega (arith, g.long, giving_place)))

        pub giving_more : {out' : List ℕ} {c' : ℕ} → Put 1 (i ∷ []) c out out' c' → length out' ≡ length out → Giving d x ws n room marks' out' c'
        giving_more p o = rw m.is (gives (omega (arith, g.long, giving_place)) p o)

pub blank_none : Blank (replicate 262144 false)
blank_none = record { none = λ k. at 262144 k }
  where
    at : (n k : ℕ) → get_or (replicate n false) k false ≡ false
    at zero k = refl
    at (suc n) zero = refl
    at (suc n) (suc k) = at n k

pub ruleset giving = (giving_begins, giving_ends, giving_falls, giving_more, giving_count, giving_place, giving_row, rules)
