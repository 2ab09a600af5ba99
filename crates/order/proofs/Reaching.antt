-- Laws of the search for a circle: marks, what they say of chains, and the first row on one.
use Prim.Native.Nat.{ℕ, zero, suc, ◌+◌, ◌≤◌, ◌<◌}
use mathlib.Core.Path.{◌≡◌, refl, sym, ap, subst, ◌∙◌}
use mathlib.Core.List.{List, [], ◌∷◌, ◌++◌}
use mathlib.Core.Option.{Option}
use mathlib.Core.Bool.{Bool, true, false, not}
use borrow.Author.Rules.{rules}
use borrow.Author.Tests.{eqb-true, eqb-false, not-false}
use native.Mathlib.Numerals.{add-one}
use native.Mathlib.Omega.{arith}
use lib.Dec.{eqb}
use lib.ListN.{length, get_or, set, drop, replicate}
use lib.Seq.{get_or-set_same, get_or-set_other}
use Rattle.std.specs.Prelude.{Option as Maybe, None, Some, MatchOption}
use Rattle.slices.specs.Bytes.{if}
use Rattle.utf8.proofs.Sequences.{below}
use Rattle.document.specs.Elements.{among}
use Rattle.document.proofs.Tests.{among_append}
use Rattle.items.specs.Words.{rows_shown, shown_row}
use Rattle.items.specs.Content.{Row}
use Rattle.order.specs.Relation.{Chain, one, more, FirstOnCircle}
use Rattle.order.specs.Types.{member_in, definitions, uses}
use Rattle.order.specs.Lookup.{listed, referred_by, targets_in, targets}
use Rattle.order.specs.Steps.{Held, Defines, Within, Finds, Target, Unmarked, reached, steps_of, todo, Marked, RowReached, MemberReached, ReachedIn, TargetsReached, IsReached, NextReached, OnCircle, Searching, Clear, CircleFound}
use Rattle.order.specs.declared.chains.Mark.{Mark}
use Rattle.order.specs.declared.chains.Mark.TheVariants.{Unreached, Reached, Followed}
use Rattle.order.proofs.Lists.{clash, same_some, case}
use Rattle.order.proofs.Circles.{chain_listed}
use Rattle.order.proofs.Tables.{used_listed}
use Rattle.order.proofs.Lookups.{uses_targets}
use Rattle.order.proofs.Finding.{shown_rows_from, shown_past, place_within, finds_cases}
use Rattle.order.proofs.Waiting.{referred_targets, defined_at, defined_below, target_within, row_held, held_within}

-- ---- marks

-- two marks that are one and differ: by what is left to do
differ : {A : Type 0} {m : Mark} (a b : Mark) → m ≡ a → m ≡ b → (steps_of a ≡ steps_of b → ⊥) → A
differ a b e f h = absurd (h (ap steps_of (sym e ∙ f)))

todo_set : (t : List Mark) (i : ℕ) (v : Mark) → i < length t → steps_of v < steps_of (get_or t i Unreached) → todo (set t i v) < todo t
todo_set [] i v l h = absurd (omega arith)
todo_set (a ∷ t) zero v l h = omega arith
todo_set (a ∷ t) (suc i) v l h = omega (arith, todo_set t i v (omega arith) h)

pub marked_none : {t : List Mark} → Marked [] t t
marked_none = record { is = λ k. refl; less = omega arith }

marked_one : (t : List Mark) (j : ℕ) → j < length t → get_or t j Unreached ≡ Unreached → Marked (j ∷ []) t (set t j Reached)
marked_one t j l e = record {
  is = λ k. go k (eqb k j) refl;
  less = omega (arith, todo_set t j Reached l (omega (arith, ap steps_of e)));
}
  where
    go : (k : ℕ) (b : Bool) → eqb k j ≡ b → get_or (set t j Reached) k Unreached ≡ if (if b true false) (reached (get_or t k Unreached)) (get_or t k Unreached)
    go k true b = let p : k ≡ j = eqb-true k j b in rw (p, e) (get_or-set_same t j Reached Unreached l)
    go k false b = get_or-set_other t j k Reached Unreached (eqb-false k j b)

reached_same : (m : Mark) → (m ≡ Unreached → ⊥) → reached m ≡ m
reached_same Unreached f = absurd (f refl)
reached_same Reached f = refl
reached_same Followed f = refl

marked_old : (t : List Mark) (j : ℕ) → (get_or t j Unreached ≡ Unreached → ⊥) → Marked (j ∷ []) t t
marked_old t j f = record { is = λ k. go k (eqb k j) refl; less = omega arith }
  where
    go : (k : ℕ) (b : Bool) → eqb k j ≡ b → get_or t k Unreached ≡ if (if b true false) (reached (get_or t k Unreached)) (get_or t k Unreached)
    go k true b = let p : k ≡ j = eqb-true k j b in rw p (sym (reached_same (get_or t j Unreached) f))
    go k false b = refl

reached_again : (m : Mark) → reached (reached m) ≡ reached m
reached_again Unreached = refl
reached_again Reached = refl
reached_again Followed = refl

marked_then : {a b : List ℕ} {t u v : List Mark} → Marked a t u → Marked b u v → Marked (a ++ b) t v
marked_then {a} {b} {t} {u} {v} p q = record {
  is = λ k. q.is k ∙ rw (p.is k, among_append k a b) (go (among k a) (among k b) (get_or t k Unreached));
  less = omega (arith, p.less, q.less);
}
  where
    go : (x y : Bool) (m : Mark) → if y (reached (if x (reached m) m)) (if x (reached m) m) ≡ if (if x true y) (reached m) m
    go true true m = reached_again m
    go true false m = refl
    go false true m = refl
    go false false m = refl

-- ---- a row

module _ {t : List Mark} {r : Maybe ℕ} where
  pub reach_past : r ≡ None → RowReached r t t
  reach_past e = record { some = λ k q. absurd (cc); none = λ q. marked_none }

  module _ {j : ℕ} (e : r ≡ Some j) where
    pub reach_new : Within r 262144 → length t ≡ 262144 → get_or t j Unreached ≡ Unreached → RowReached r t (set t j Reached)
    reach_new w l z = record {
      some = λ k q. subst (λ (i : ℕ). Marked (i ∷ []) t (set t j Reached)) (let o : j ≡ k = cc in o) (marked_one t j (omega (arith, w.is j e, l)) z);
      none = λ q. absurd (cc);
    }

    pub reach_old : (get_or t j Unreached ≡ Unreached → ⊥) → RowReached r t t
    reach_old f = record { some = λ k q. let o : j ≡ k = cc in rw o at (marked_old t j f); none = λ q. absurd (cc) }

pub ruleset reach = (reach_past, reach_new, reach_old, place_within, rules)

-- ---- a member

found_reached : {o : Option ℕ} {n : ℕ} {r : Maybe ℕ} {t u : List Mark} → Finds o n r → RowReached r t u → Marked (listed o) t u
found_reached f p = finds_cases f (λ i e q. rw q (p.some i e)) (λ e q. rw q (p.none e))

pub member_reached : {d x ws : List ℕ} {n m : ℕ} {a b : Maybe ℕ} {t u v : List Mark} → RowReached b u v → RowReached a t u → Target d x ws n true m b → Target d x ws n false m a → MemberReached d x ws n m t v
member_reached {d} {x} {ws} {n} {m} q p g f = record {
  is = rw (referred_targets (rows_shown d x ws n) (shown_row d x ws m).tp) (marked_then (found_reached f.finds p) (found_reached g.finds q));
}

pub ruleset reach_members = (member_reached, target_within, row_held, rules)

-- ---- the targets of a row: what is left to mark makes of the marks what was asked

pub record Reaching (d x ws : List ℕ) (n i : ℕ) (t₀ t : List Mark) (k : ℕ) : Type 0 where
  pub rest : (v : List Mark) → Marked (targets_in (rows_shown d x ws n) i (drop k (rows_shown d x ws n))) t v → Marked (targets (rows_shown d x ws n) i) t₀ v

pub reaching_begins : {d x ws : List ℕ} {t : List Mark} {n i : ℕ} → Reaching d x ws n i t t 0
unfolding targets
reaching_begins = record { rest = λ v p. p }

reaching_step : (t : List Row) (i : ℕ) (row : Row) (rest : List Row) (a b c : List Mark) → Marked (if (member_in i row) (referred_by t row.tp) []) a b → Marked (targets_in t i rest) b c → Marked (targets_in t i (row ∷ rest)) a c
reaching_step t i row rest a b c p q = go (member_in i row) p
  where
    go : (m : Bool) → Marked (if m (referred_by t row.tp) []) a b → Marked (if m (referred_by t row.tp ++ targets_in t i rest) (targets_in t i rest)) a c
    go true p = marked_then p q
    go false p = marked_then p q

module _ {d x ws : List ℕ} {t₀ t : List Mark} {n i k : ℕ} (g : Reaching d x ws n i t₀ t k) where
  pub reaching_ends : n ≤ k → TargetsReached (rows_shown d x ws n) i t₀ t
  reaching_ends h = record { is = g.rest t (rw (shown_past d x ws n k h) marked_none) }

  pub reaching_more : {u : List Mark} → k < n → ReachedIn d x ws n i k t u → Reaching d x ws n i t₀ u (k + 1)
  reaching_more {u} l p = record {
    rest = λ v q. g.rest v
        (rw (shown_rows_from d x ws n k l)
        (reaching_step (rows_shown d x ws n) i (shown_row d x ws k) (drop (suc k) (rows_shown d x ws n)) t u v p.is (rw add-one at q)));
  }

pub ruleset reaching = (reaching_begins, reaching_ends, reaching_more, rules)

pub reached_here : {marks : List Mark} {k : ℕ} → get_or marks k Unreached ≡ Reached → IsReached marks k true
reached_here e = record { is = λ z. e; exact = λ q. refl }

pub reached_not : {marks : List Mark} {k : ℕ} → (get_or marks k Unreached ≡ Reached → ⊥) → IsReached marks k false
reached_not f = record { is = λ z. clash z refl; exact = λ q. absurd (f q) }

pub ruleset reached_rows = (reached_here, reached_not, rules)

-- the first of n rows that is reached and not followed, or none
pub reached_first : (marks : List Mark) (n : ℕ) (r : Maybe ℕ) → MatchOption r ((k : ℕ) → 0 ≤ k → k < n → IsReached marks k false) (λ i. (0 ≤ i) × (i < n) × IsReached marks i true × ((k : ℕ) → 0 ≤ k → k < i → IsReached marks k false)) → NextReached marks n r
reached_first marks n None h = record { some = λ k e. absurd (cc); within = λ k e. absurd (cc); none = λ e j l q. clash ((h j (omega arith) l).exact q) refl }
reached_first marks n (Some i) h = record { some = λ k e. rw (same_some e) at (h.2.is refl); within = λ k e. omega (arith, same_some e, h.1); none = λ e. absurd (cc) }

-- ---- what marks say of chains

chain_end : {uses : ℕ → ℕ → Bool} {i j k : ℕ} → Chain uses i j → uses j k ≡ true → Chain uses i k
chain_end (one e) u = more e (one u)
chain_end (more e c) u = more e (chain_end c u)

-- after row i's targets are marked: a mark is of them, or was there; and what was there, or is a target, has a mark
module _ {js : List ℕ} {t u : List Mark} (p : Marked js t u) (k : ℕ) where
  marked_cases : {P : Type 0} → (get_or u k Unreached ≡ Unreached → ⊥) → (among k js ≡ true → P) → ((get_or t k Unreached ≡ Unreached → ⊥) → P) → P
  marked_cases {P} f g h = go (among k js) refl (p.is k)
    where
      go : (b : Bool) → among k js ≡ b → get_or u k Unreached ≡ if b (reached (get_or t k Unreached)) (get_or t k Unreached) → P
      go true b e = g b
      go false b e = h (λ z. f (e ∙ z))

  reached_some : (m : Mark) → reached m ≡ Unreached → ⊥
  reached_some Unreached e = differ Reached Unreached refl e (λ q. omega (arith, q))
  reached_some Reached e = differ Reached Unreached refl e (λ q. omega (arith, q))
  reached_some Followed e = differ Followed Unreached refl e (λ q. omega (arith, q))

  reached_followed : (m : Mark) → reached m ≡ Followed → m ≡ Followed
  reached_followed Unreached e = differ Reached Followed refl e (λ q. omega (arith, q))
  reached_followed Reached e = e
  reached_followed Followed e = e

  marked_kept : (get_or t k Unreached ≡ Unreached → ⊥) → get_or u k Unreached ≡ Unreached → ⊥
  marked_kept f z = go (among k js) (p.is k)
    where
      go : (b : Bool) → get_or u k Unreached ≡ if b (reached (get_or t k Unreached)) (get_or t k Unreached) → ⊥
      go true e = reached_some (get_or t k Unreached) (sym e ∙ z)
      go false e = f (sym e ∙ z)

  marked_new : among k js ≡ true → get_or u k Unreached ≡ Unreached → ⊥
  marked_new m z = reached_some (get_or t k Unreached) (sym (p.is k ∙ rw m) ∙ z)

  -- a row that is reached is not followed yet
  marked_followed : get_or u k Unreached ≡ Followed → get_or t k Unreached ≡ Followed
  marked_followed e = go (among k js) (p.is k)
    where
      go : (b : Bool) → get_or u k Unreached ≡ if b (reached (get_or t k Unreached)) (get_or t k Unreached) → get_or t k Unreached ≡ Followed
      go true q = reached_followed (get_or t k Unreached) (sym q ∙ e)
      go false q = sym q ∙ e

-- ---- the search

pub search_begins : {d x ws : List ℕ} {t u : List Mark} {n p : ℕ} → TargetsReached (rows_shown d x ws n) p t u → Unmarked t → length u ≡ 262144 → Searching d x ws n p u
search_begins {d} {x} {ws} {t} {u} {n} {p} r b l = record {
  sound = λ j f. marked_cases r.is j f (λ m. one (uses_targets (rows_shown d x ws n) p j ∙ m)) (λ g. absurd (g (b.none j)));
  from = λ j e. marked_new r.is j (sym (uses_targets (rows_shown d x ws n) p j) ∙ e);
  closed = λ i e. differ Followed Unreached (marked_followed r.is i e) (b.none i) (λ q. omega (arith, q));
  long = l;
}

-- a mark that is neither
followed_else : (m : Mark) → (m ≡ Unreached → ⊥) → (m ≡ Reached → ⊥) → m ≡ Followed
followed_else Unreached f g = absurd (f refl)
followed_else Reached f g = absurd (g refl)
followed_else Followed f g = refl

module _ {d x ws : List ℕ} {t : List Mark} {n p : ℕ} (g : Searching d x ws n p t) where
  marked_below : (j : ℕ) → (get_or t j Unreached ≡ Unreached → ⊥) → j < n
  marked_below j f = defined_below d x ws n j (chain_listed (uses (rows_shown d x ws n)) (definitions (rows_shown d x ws n)) (used_listed (rows_shown d x ws n)) (g.sound j f))

  -- where each row that is reached is followed, all that a chain leads to is reached
  chain_marked : ((j : ℕ) → j < n → get_or t j Unreached ≡ Reached → ⊥) → {i j : ℕ} → ((m : ℕ) → uses (rows_shown d x ws n) i m ≡ true → get_or t m Unreached ≡ Unreached → ⊥) → Chain (uses (rows_shown d x ws n)) i j → get_or t j Unreached ≡ Unreached → ⊥
  chain_marked h f (one e) = f _ e
  chain_marked h f (more {j = m} e c) =
      chain_marked h (g.closed m (followed_else (get_or t m Unreached) (f m e) (h m (marked_below m (f m e))))) c

  module _ {r : Maybe ℕ} (s : NextReached t n r) (q : r ≡ None) where
    pub search_met : (get_or t p Unreached ≡ Unreached → ⊥) → OnCircle (rows_shown d x ws n) p true
    search_met f = record { is = λ e. g.sound p f; exact = λ c. refl }

    pub search_unmet : get_or t p Unreached ≡ Unreached → OnCircle (rows_shown d x ws n) p false
    search_unmet e = record { is = λ z. clash z refl; exact = λ c. absurd (chain_marked (s.none q) g.from c e) }

  module _ {k : ℕ} (l : k < n) (o : get_or t k Unreached ≡ Reached) where
    search_falls : {u : List Mark} → TargetsReached (rows_shown d x ws n) k (set t k Followed) u → k < length t → todo u < todo t
    search_falls r h = omega (arith, r.is.less, todo_set t k Followed h (omega (arith, ap steps_of o)))

    search_goes : {u : List Mark} → TargetsReached (rows_shown d x ws n) k (set t k Followed) u → k < length t → length u ≡ 262144 → Searching d x ws n p u
    search_goes {u} r h s = record {
      long = s;
      sound = λ i f. marked_cases r.is i f (λ m. chain_end here (uses_targets (rows_shown d x ws n) k i ∙ m)) (λ e. case (eqb i k)
          (λ b. rw (eqb-true i k b) here)
          (λ b. g.sound i (λ z. e (get_or-set_other t k i Followed Unreached (eqb-false i k b) ∙ z))));
      from = λ i e. kept i (g.from i e);
      closed = λ i e m v. case (eqb i k)
          (λ b. let f : uses (rows_shown d x ws n) k m ≡ true = rw (eqb-true i k b) at v in marked_new r.is m (sym (uses_targets (rows_shown d x ws n) k m) ∙ f))
          (λ b. kept m (g.closed i (sym (get_or-set_other t k i Followed Unreached (eqb-false i k b)) ∙ marked_followed r.is i e) m v));
    }
      where
        here : Chain (uses (rows_shown d x ws n)) p k
        here = g.sound k (λ z. differ Unreached Reached z o (λ q. omega (arith, q)))

        -- what was reached is reached
        kept : (i : ℕ) → (get_or t i Unreached ≡ Unreached → ⊥) → get_or u i Unreached ≡ Unreached → ⊥
        kept i f = marked_kept r.is i (λ z. case (eqb i k)
            (λ b. differ Followed Unreached (get_or-set_same t k Followed Unreached h) (rw (eqb-true i k b) at z) (λ q. omega (arith, q)))
            (λ b. f (sym (get_or-set_other t k i Followed Unreached (eqb-false i k b)) ∙ z)))

  pub search_row : Held ws n → p < n → p < 262144
  search_row h l = omega (arith, h.few)

  module _ {k : ℕ} {r : Maybe ℕ} (s : NextReached t n r) (q : r ≡ Some k) (h : Held ws n) where
    pub search_place : k < 262144
    search_place = omega (arith, s.within k q, h.few)

    module _ {u : List Mark} (f : TargetsReached (rows_shown d x ws n) k (set t k Followed) u) where
      pub search_more : length u ≡ 262144 → Searching d x ws n p u
      search_more e = search_goes (s.within k q) (s.some k q) f (omega (arith, search_place, g.long)) e

      pub search_less : todo u < todo t
      search_less = search_falls (s.within k q) (s.some k q) f (omega (arith, search_place, g.long))

pub ruleset searching = (search_begins, search_met, search_unmet, search_more, search_less, search_place, search_row, held_within, rules)

pub unmarked_all : Unmarked (replicate 262144 Unreached)
unmarked_all = record { none = λ k. at 262144 k }
  where
    at : (n k : ℕ) → get_or (replicate n Unreached) k Unreached ≡ Unreached
    at zero k = refl
    at (suc n) zero = refl
    at (suc n) (suc k) = at n k

-- ---- the first row on a circle

module _ {d x ws : List ℕ} {n p : ℕ} {b : Bool} (l : p < n) (a : Defines d x ws p b) where
  pub circle_other : {r : Bool} → b ≡ false → r ≡ b → OnCircle (rows_shown d x ws n) p r
  circle_other e q = record {
    is = λ f. let z : ◌≡◌ {A = ℕ} 0 1 = cc in absurd (omega arith);
    exact = λ c. q ∙ a.is ∙ sym (defined_at d x ws n p l) ∙ chain_listed (uses (rows_shown d x ws n)) (definitions (rows_shown d x ws n)) (used_listed (rows_shown d x ws n)) c;
  }

pub circle_given : {t : List Row} {marks : List Bool} {p : ℕ} {r : Bool} → Clear t marks → r ≡ not (get_or marks p false) → r ≡ false → OnCircle t p r
circle_given {marks = marks} {p = p} h q f = record { is = λ e. clash e f; exact = λ c. absurd (h.none _ (not-false (get_or marks p false) (sym q ∙ f)) c) }

pub ruleset lefts = (circle_other, circle_given, row_held, rules)

-- the first of n rows that is on a circle, or none
pub circle_first : (d x ws : List ℕ) (n : ℕ) (r : Maybe ℕ) → MatchOption r ((k : ℕ) → 0 ≤ k → k < n → OnCircle (rows_shown d x ws n) k false) (λ i. (0 ≤ i) × (i < n) × OnCircle (rows_shown d x ws n) i true × ((k : ℕ) → 0 ≤ k → k < i → OnCircle (rows_shown d x ws n) k false)) → CircleFound (rows_shown d x ws n) r
circle_first d x ws n None h = record {
  some = λ i e. absurd (cc);
  none = λ e i c. clash
      ((h i (omega arith) (defined_below d x ws n i (chain_listed (uses (rows_shown d x ws n)) (definitions (rows_shown d x ws n)) (used_listed (rows_shown d x ws n)) c))).exact c)
      refl;
}
circle_first d x ws n (Some i) h =
    let f : FirstOnCircle (uses (rows_shown d x ws n)) i = record { circle = h.2.is refl; first = λ q c. below q i (λ o. clash ((h.3 q (omega arith) o).exact c) refl) (λ o. o) } in
    record { some = λ k e. rw (same_some e) at f; none = λ e. absurd (cc) }
