-- Laws of the functions that check a candidate: numbers, circles, places.
use Prim.Native.Nat.{ℕ, zero, suc, ◌+◌, ◌-◌, ◌≤◌, ◌<◌}
use mathlib.Core.Path.{◌≡◌, refl, sym, ap, ◌∙◌}
use mathlib.Core.List.{List, [], ◌∷◌, ◌++◌}
use mathlib.Core.Option.{Option, some}
use mathlib.Core.Bool.{Bool, true, false, not}
use borrow.Author.Rules.{rules}
use borrow.Author.Tests.{ne_eqb, eqb-true, leb-true, not-false}
use native.Mathlib.Omega.{arith}
use lib.Dec.{eqb, leb}
use lib.ListN.{length, drop, get_or}
use Rattle.std.specs.Prelude.{Option as Maybe, None, Some}
use Rattle.std.specs.Bool.{MatchBool}
use Rattle.std.specs.List.{AllWithin, HoldsAt, range_with_len}
use Rattle.slices.specs.Bytes.{if}
use Rattle.slices.proofs.Runs.{and_both}
use Rattle.utf8.proofs.Sequences.{below}
use Rattle.document.specs.Kinds as kinds
use Rattle.document.specs.Elements.{among}
use Rattle.document.proofs.Tests.{among_append}
use Rattle.items.specs.Words.{Word, rows_shown, shown_row}
use Rattle.items.specs.Content.{Row}
use Rattle.items.proofs.Words.{word_in}
use Rattle.order.specs.Relation.{Chain, one}
use Rattle.order.specs.Types.{member_in, uses}
use Rattle.order.specs.Lookup.{listed, referred_by, targets_in, targets}
use Rattle.order.specs.Steps.{Held, Adds, Defines, MemberIn, Within, found, target, Target, BearsNone}
use Rattle.order.specs.Certificate.{Got, IsParent, member_of, Falls, EdgeFalls, Late, RowFalls, Members, Follows, IsCircle, run_of, RunIs, Runs, RunBefore, Above, IsNoted, Placed, IsNext, PlacedBefore, IsPlaced, ArePlaced}
use Rattle.order.proofs.Lists.{clash, apart, or_else, first_true, second_true, each_below}
use Rattle.order.proofs.Circles.{chained}
use Rattle.order.proofs.Lookups.{listed_is, is_listed, uses_targets}
use Rattle.order.proofs.Finding.{shown_rows_from, shown_past, finds_some}
use Rattle.order.proofs.Counting.{undefined_member, Missing, missing_begins, missing_ends, missing_more}
use Rattle.order.proofs.Waiting.{referred_targets, defined_at, defined_below, row_held, held_few}

-- ---- uses by members

in_targets : {P : Type 0} (t : List Row) (i j : ℕ) (ms : List Row) → among j (targets_in t i ms) ≡ true → ((m : ℕ) (row : Row) (rest : List Row) → drop m ms ≡ row ∷ rest → member_in i row ≡ true → among j (referred_by t row.tp) ≡ true → P) → P
in_targets t i j [] e f = clash e refl
in_targets {P} t i j (r ∷ ms) e f = go (member_in i r) refl e (in_targets t i j ms)
  where
    go : (b : Bool) → member_in i r ≡ b → among j (if b (referred_by t r.tp ++ targets_in t i ms) (targets_in t i ms)) ≡ true → (among j (targets_in t i ms) ≡ true → ((m : ℕ) (row : Row) (rest : List Row) → drop m ms ≡ row ∷ rest → member_in i row ≡ true → among j (referred_by t row.tp) ≡ true → P) → P) → P
    go true b e h =
        or_else (among j (referred_by t r.tp)) (among j (targets_in t i ms)) (sym (among_append j (referred_by t r.tp) (targets_in t i ms)) ∙ e)
        (λ a. f 0 r ms refl b a)
        (λ a. h a (λ m. f (suc m)))
    go false b e h = h e (λ m. f (suc m))

target_among : (t : List Row) (i j : ℕ) (ms : List Row) (m : ℕ) (row : Row) (rest : List Row) → drop m ms ≡ row ∷ rest → member_in i row ≡ true → among j (referred_by t row.tp) ≡ true → among j (targets_in t i ms) ≡ true
target_among t i j [] zero row rest d e f = let z : ◌≡◌ {A = ℕ} 0 1 = cc in absurd (omega arith)
target_among t i j [] (suc m) row rest d e f = let z : ◌≡◌ {A = ℕ} 0 1 = cc in absurd (omega arith)
target_among t i j (r ∷ ms) zero row rest d e f =
    let p : r ≡ row = cc in
    rw (p, e, among_append j (referred_by t row.tp) (targets_in t i ms), f)
target_among t i j (r ∷ ms) (suc m) row rest d e f = go (member_in i r) (target_among t i j ms m row rest d e f)
  where
    go : (b : Bool) → among j (targets_in t i ms) ≡ true → among j (if b (referred_by t r.tp ++ targets_in t i ms) (targets_in t i ms)) ≡ true
    go true h = among_append j (referred_by t r.tp) (targets_in t i ms) ∙ second_true (among j (referred_by t r.tp)) (among j (targets_in t i ms)) h
    go false h = h

module _ (d x ws : List ℕ) (n i j : ℕ) where
  pub used_by : {P : Type 0} → uses (rows_shown d x ws n) i j ≡ true → ((m : ℕ) → m < n → member_in i (shown_row d x ws m) ≡ true → among j (referred_by (rows_shown d x ws n) (shown_row d x ws m).tp) ≡ true → P) → P
  unfolding targets
  used_by u f =
      in_targets (rows_shown d x ws n) i j (rows_shown d x ws n) (sym (uses_targets (rows_shown d x ws n) i j) ∙ u)
      (λ m row rest e a b. below m n
      (λ l. let p : row ≡ shown_row d x ws m = cc (e, shown_rows_from d x ws n m l) in f m l (rw p at a) (rw p at b))
      (λ l. let z : ◌≡◌ {A = ℕ} 0 1 = cc (e, shown_past d x ws n m l) in absurd (omega arith)))

  pub by_member : (m : ℕ) → m < n → member_in i (shown_row d x ws m) ≡ true → among j (referred_by (rows_shown d x ws n) (shown_row d x ws m).tp) ≡ true → uses (rows_shown d x ws n) i j ≡ true
  unfolding targets
  by_member m l a b =
      uses_targets (rows_shown d x ws n) i j
      ∙ target_among (rows_shown d x ws n) i j (rows_shown d x ws n) m (shown_row d x ws m) (drop (suc m) (rows_shown d x ws n)) (shown_rows_from d x ws n m l) a b

-- a tp type refers to what it names as it is, and to what it names less `[]`
target_referred : (t : List Row) (less : Bool) (tp : Option (List ℕ)) (j : ℕ) → target t less tp ≡ some j → among j (referred_by t tp) ≡ true
target_referred t false tp j e =
    rw (referred_targets t tp, among_append j (listed (target t false tp)) (listed (target t true tp)))
    (first_true (among j (listed (target t false tp))) (among j (listed (target t true tp))) (is_listed j (target t false tp) e))
target_referred t true tp j e =
    rw (referred_targets t tp, among_append j (listed (target t false tp)) (listed (target t true tp)))
    (second_true (among j (listed (target t false tp))) (among j (listed (target t true tp))) (is_listed j (target t true tp) e))

referred_cases : {P : Type 0} (t : List Row) (tp : Option (List ℕ)) (j : ℕ) → among j (referred_by t tp) ≡ true → ((less : Bool) → target t less tp ≡ some j → P) → P
referred_cases t tp j e f =
    or_else (among j (listed (target t false tp))) (among j (listed (target t true tp)))
    (sym (among_append j (listed (target t false tp)) (listed (target t true tp))) ∙ ap (among j) (sym (referred_targets t tp)) ∙ e)
    (λ a. f false (listed_is j (target t false tp) a))
    (λ a. f true (listed_is j (target t true tp) a))

-- ---- numbers

module _ {d x ws work : List ℕ} {n p m : ℕ} where
  pub row_never : RowFalls d x ws n work p m None
  row_never = record { falls = λ b e. apart e; noted = λ b e. apart e; unnamed = λ b e. apart e }

  pub row_other : {k : ℕ} → Word ws m 0 k → (k ≡ kinds.member → ⊥) → RowFalls d x ws n work p m (Some false)
  row_other {k} w h =
      let o : eqb (shown_row d x ws m).kind kinds.member ≡ false = rw (← word_in w) (ne_eqb k kinds.member h) in
      record {
        falls = λ b e i j a. clash a (rw o);
        noted = λ b e y i a. clash a (rw o);
        unnamed = λ b e. let z : false ≡ b = cc in sym z ∙ rw o;
      }

  module _ {u : ℕ} {o e f : Maybe ℕ} {b c : Bool} (w : IsParent d x ws n m o) (v : o ≡ Some u) (l : m < n) (s : Target d x ws n false m e) (t : Target d x ws n true m f) (y : EdgeFalls n work p u (m + m + 1) e b) (yb : not b ≡ false) (z : EdgeFalls n work p u (m + m + 2) f c) (zc : not c ≡ false) where
    owner : (i : ℕ) → member_in i (shown_row d x ws m) ≡ true → u ≡ i
    owner i a =
        let o = (and_both (eqb (shown_row d x ws m).kind kinds.member) (eqb (shown_row d x ws m).parent (suc i)) a).1 in
        omega (arith, w.is u v, eqb-true (shown_row d x ws m).parent (suc i) o)

    falls_to : (less : Bool) (j : ℕ) → target (rows_shown d x ws n) less (shown_row d x ws m).tp ≡ some j → Falls n work p u j
    falls_to false j o = y.falls (not-false b yb) j (s.finds.is ∙ ap found o)
    falls_to true j o = z.falls (not-false c zc) j (t.finds.is ∙ ap found o)

    row_falls : (i j : ℕ) → member_in i (shown_row d x ws m) ≡ true → among j (referred_by (rows_shown d x ws n) (shown_row d x ws m).tp) ≡ true → Falls n work p i j
    row_falls i j a r = referred_cases (rows_shown d x ws n) (shown_row d x ws m).tp j r (λ less o. rw (owner i a) at (falls_to less j o))

    late : (i j : ℕ) (less : Bool) → member_in i (shown_row d x ws m) ≡ true → target (rows_shown d x ws n) less (shown_row d x ws m).tp ≡ some j → run_of n work i ≤ get_or work (n + j) 0 + 1 → Late (rows_shown d x ws n) n work i
    late i j less a o k r f = omega (arith, k, f j (by_member d x ws n i j m l a (target_referred (rows_shown d x ws n) less (shown_row d x ws m).tp j o)))

    row_noted : n ≤ p → (i : ℕ) → member_in i (shown_row d x ws m) ≡ true → 0 < get_or work (n + n + i) 0 → member_of (get_or work (n + n + i) 0) ≡ m → Late (rows_shown d x ws n) n work i
    row_noted k i a pos o =
        let r : u ≡ i = owner i a in
        below (get_or work (n + n + i) 0) (m + m + 2)
        (λ small.
        let q : get_or work (n + n + i) 0 ≡ m + m + 1 = omega (arith, o, pos) in
        let x = rw r at (y.noted (not-false b yb) k) in
        let n = x q in
        late i n.0 false a (finds_some s.finds n.1) n.2)
        (λ large.
        let q : get_or work (n + n + i) 0 ≡ m + m + 2 = omega (arith, o, pos) in
        let x = rw r at (z.noted (not-false c zc) k) in
        let n = x q in
        late i n.0 true a (finds_some t.finds n.1) n.2)

    pub row_told : {k : ℕ} {r : Bool} → Word ws m 0 k → k ≡ kinds.member → BearsNone d x ws n m r → RowFalls d x ws n work p m (Some r)
    row_told {k} {r} a q g = record {
      falls = λ b e. row_falls;
      noted = λ b e. row_noted;
      unnamed = λ b e. let z : r ≡ b = cc in sym z ∙ (undefined_member a q g).is;
    }

pub parent_below : {d x ws : List ℕ} {n m i : ℕ} {o : Maybe ℕ} → IsParent d x ws n m o → o ≡ Some i → i < n
parent_below w e = w.within _ e

pub target_place : {d x ws : List ℕ} {n m : ℕ} {less : Bool} {r : Maybe ℕ} → Target d x ws n less m r → Within r n
target_place f = f.finds.within

pub ruleset row_falling = (row_never, row_other, row_told, parent_below, target_place, row_held, held_few, rules)

pub record Fallen (d x ws : List ℕ) (n : ℕ) (work : List ℕ) (p k c : ℕ) : Type 0 where
  pub falls : (m : ℕ) → m < k → (i j : ℕ) → member_in i (shown_row d x ws m) ≡ true → among j (referred_by (rows_shown d x ws n) (shown_row d x ws m).tp) ≡ true → Falls n work p i j
  pub noted : n ≤ p → (m : ℕ) → m < k → (i : ℕ) → member_in i (shown_row d x ws m) ≡ true → 0 < get_or work (n + n + i) 0 → member_of (get_or work (n + n + i) 0) ≡ m → Late (rows_shown d x ws n) n work i
  pub counted : Missing d x ws n k c

pub fallen_begins : {d x ws work : List ℕ} {n p : ℕ} → Fallen d x ws n work p 0 0
fallen_begins = record { falls = λ m l. absurd (omega arith); noted = λ h m l. absurd (omega arith); counted = missing_begins }

pub fallen_never : {d x ws work : List ℕ} {n p : ℕ} → Members d x ws n work p None
fallen_never = record { falls = λ u e. apart e; noted = λ u e. apart e; count = λ u e. apart e }

module _ {d x ws work : List ℕ} {n p k c : ℕ} (g : Fallen d x ws n work p k c) where
  pub fallen_ends : n ≤ k → Members d x ws n work p (Some c)
  fallen_ends h = record {
    falls = λ v l i j u. used_by d x ws n i j u (λ m o. g.falls m (omega arith) i j);
    noted = λ v l q i o a e. g.noted q (member_of (get_or work (n + n + i) 0)) (omega arith) i a e refl;
    count = λ v l. let z : c ≡ v = cc in sym z ∙ (missing_ends g.counted h).is;
  }

  pub fallen_more : {r : Maybe Bool} {b : Bool} {c' : ℕ} → k < n → RowFalls d x ws n work p k r → r ≡ Some b → Adds c b c' → Fallen d x ws n work p (k + 1) c'
  fallen_more {r} {b} l f h a = record {
    falls = λ m o. below m k (g.falls m) (λ q. let e : k ≡ m = omega arith in rw e at (f.falls b h));
    noted = λ q m o. below m k (g.noted q m) (λ w. let e : k ≡ m = omega arith in rw e at (f.noted b h q));
    counted = missing_more g.counted l record { is = f.unnamed b h } a;
  }

  pub fallen_some : Held ws n → k < n → c ≤ 262144
  fallen_some h l = omega (arith, g.counted.most, h.few)

pub ruleset fallings = (fallen_begins, fallen_never, fallen_ends, fallen_more, fallen_some, row_held, rules)

-- ---- a circle

pub follow_past : {t : List Row} {n r : ℕ} → Follows t n r None
follow_past = record { is = λ k e. absurd (cc); within = λ k e. absurd (cc) }

pub follow_target : {d x ws : List ℕ} {n r m : ℕ} {j : Maybe ℕ} {b less : Bool} → m < n → MemberIn d x ws r m b → b ≡ true → Target d x ws n less m j → Follows (rows_shown d x ws n) n r j
follow_target {d} {x} {ws} {n} {r} {m} {j} {b} {less} l a h f = record {
  is = λ k e. by_member d x ws n r k m l (sym a.is ∙ h) (target_referred (rows_shown d x ws n) less (shown_row d x ws m).tp k (finds_some f.finds e));
  within = f.finds.within.is;
}

pub ruleset follows = (follow_past, follow_target, row_held, held_few, rules)

pub record Leads (t : List Row) (n p r : ℕ) : Type 0 where
  pub within : r < n
  pub leads : (j : ℕ) → uses t r j ≡ true → Chain (uses t) p j

pub leads_begins : {t : List Row} {n p : ℕ} → p < n → Leads t n p p
leads_begins h = record { within = h; leads = λ j u. one u }

pub circle_never : {t : List Row} {p : ℕ} → IsCircle t p false
circle_never = record { is = λ e. clash e refl }

module _ {t : List Row} {n p r j : ℕ} {o : Maybe ℕ} (g : Leads t n p r) (f : Follows t n r o) (h : o ≡ Some j) where
  pub leads_on : Leads t n p j
  leads_on = record { within = f.within j h; leads = λ k u. chained (uses t) (g.leads j (f.is j h)) (one u) }

  pub leads_back : j ≡ p → IsCircle t p true
  leads_back e = record { is = λ z. rw e at (g.leads j (f.is j h)) }

pub ruleset leading = (leads_begins, circle_never, leads_on, leads_back, rules)

-- ---- places

pub record Rising (n : ℕ) (work out : List ℕ) (k r j : ℕ) : Type 0 where
  pub is : Runs n work out k → (i : ℕ) → j ≤ i → i < k → get_or out i 0 < r
  pub within : j ≤ k

pub rising_begins : {n : ℕ} {work out : List ℕ} {k r : ℕ} → Rising n work out k r k
rising_begins = record { is = λ f i h l. absurd (omega arith); within = omega arith }

module _ {n : ℕ} {work out : List ℕ} {k r j : ℕ} (g : Rising n work out k r j) where
  pub rising_here : RunBefore n work out k r j
  rising_here = record { is = g.is }

  pub rising_ends : j ≤ 0 → RunBefore n work out k r 0
  rising_ends h = record { is = λ f i l. g.is f i (omega arith) }

  pub rising_on : {s x : ℕ} → 0 < j → Got out (j - 1) x → x < r → RunIs n work x s → s < j → Rising n work out k r s
  rising_on {s} {x} p o l q h = record {
    is = λ f i a b. below i j
        (λ y. below i (j - 1)
        (λ z.
        let e : run_of n work (get_or out (j - 1) 0) ≡ s = rw (← o.is) (sym q.is) in
        omega (arith, f.is (j - 1) (omega (arith, g.within)) i (omega (arith, e)) z, o.is))
        (λ z. let e : j - 1 ≡ i = omega arith in omega (arith, ap (λ (k : ℕ). get_or out k 0) e, o.is)))
        (λ y. g.is f i y b);
    within = omega (arith, g.within);
  }

pub above_is : {n : ℕ} {work out : List ℕ} {k r s from : ℕ} → Runs n work out k → RunBefore n work out k r s → Above out k r from (leb s from)
above_is {s = s} {from = from} f g = record { is = λ e j h l. g.is f j (omega (arith, leb-true s from e)) l }

pub ruleset rising = (rising_begins, rising_here, rising_ends, rising_on, rules)

pub next_never : {d x ws work out : List ℕ} {n k : ℕ} → IsNext d x ws n work out k false
next_never = record { is = λ e. clash e refl }

pub placed_runs : {d x ws work out : List ℕ} {n k : ℕ} → PlacedBefore d x ws n work out k → Runs n work out k
placed_runs f = record { is = λ i l. (f.is i l).run }

pub next_is : {d x ws work out : List ℕ} {n k r a s : ℕ} {b c q : Bool} → r < n → Got out k r → Defines d x ws r b → b ≡ true → Got work (n + r) a → a ≡ k → RunIs n work r s → IsNoted d x ws n work r s q → q ≡ true → Above out k r s c → IsNext d x ws n work out k c
next_is {d} {x} {ws} {work} {out} {n} {k} {r} {a} {s} {b} {c} {q} l g f h v y m w o p = record { is = all }
  where
    all : c ≡ true → Placed d x ws n work out k
    all e =
        let z : r ≡ get_or out k 0 = g.is in
        record {
          definition = rw (← z) (defined_at d x ws n r l ∙ sym f.is ∙ h);
          numbered = rw (← z) (sym v.is ∙ y);
          run = rw (← z, ← m.is) (p.is e);
          noted = rw (← z, ← m.is) (rw o at w);
        }

pub ruleset nexts = (next_never, placed_runs, next_is, row_held, rules)

module _ {work out : List ℕ} {n r : ℕ} where
  pub place_never : {t : List Row} → IsPlaced t n work out r false
  place_never = record { is = λ e. clash e refl }

  pub place_other : {d x ws : List ℕ} {b q : Bool} → r < n → Defines d x ws r b → b ≡ false → IsPlaced (rows_shown d x ws n) n work out r q
  place_other {d} {x} {ws} l f h = record { is = λ e m. clash m (defined_at d x ws n r l ∙ sym f.is ∙ h) }

  pub place_here : {t : List Row} {k y : ℕ} → Got work (n + r) k → k < length out → Got out k y → IsPlaced t n work out r (eqb y r)
  place_here {t} {k} {y} g l f = record {
    is = λ e m. record { below = omega (arith, g.is); is = rw (← g.is, ← f.is) (eqb-true y r e) };
  }

pub ruleset placing = (place_never, place_other, place_here, row_held, rules)

-- each of n rows stands at its place, or some does not
pub placed_all : (d x ws work out : List ℕ) (n : ℕ) (r : Bool) → MatchBool r (AllWithin (λ k. IsPlaced (rows_shown d x ws n) n work out k true) (range_with_len 0 n) 0 (length (range_with_len 0 n))) ((k : ℕ) × (k < length (range_with_len 0 n)) × HoldsAt (λ k. IsPlaced (rows_shown d x ws n) n work out k false) (range_with_len 0 n) k) → ArePlaced (rows_shown d x ws n) n work out r
placed_all d x ws work out n true h = record {
  is = λ e r m. (each_below (λ k. IsPlaced (rows_shown d x ws n) n work out k true) n h r (defined_below d x ws n r m)).is refl m;
}
placed_all d x ws work out n false h = record { is = λ e. clash e refl }
