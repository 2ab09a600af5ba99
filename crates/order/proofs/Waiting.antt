-- Laws of rows that wait: which rows are left, which a member refers to, and the first that is ready.
use Prim.Native.Nat.{ℕ, zero, suc, ◌+◌, ◌*◌, ◌≤◌, ◌<◌}
use mathlib.Core.Path.{◌≡◌, refl, sym, ap, ◌∙◌}
use mathlib.Core.List.{List, [], ◌∷◌, ◌++◌}
use mathlib.Core.Option.{Option, none, some}
use mathlib.Core.Bool.{Bool, true, false, not}
use borrow.Author.Rules.{rules}
use borrow.Author.Tests.{ne_eqb}
use native.Mathlib.Nat.{add-zero, zero-add}
use native.Mathlib.Omega.{arith}
use lib.ListN.{length, drop, get_or}
use Rattle.std.specs.Prelude.{Option as Maybe, None, Some, MatchOption}
use Rattle.std.specs.Bool.{MatchBool}
use Rattle.std.specs.List.{AllWithin, HoldsAt, range_with_len}
use Rattle.slices.specs.Bytes.{if}
use Rattle.slices.proofs.Runs.{if_same}
use Rattle.utf8.proofs.Sequences.{below}
use Rattle.document.specs.Elements.{among}
use Rattle.document.proofs.Tests.{among_there}
use Rattle.items.specs.Words.{rows_shown, shown_row}
use Rattle.items.specs.Content.{Row}
use Rattle.order.specs.Relation.{uses_any, ready}
use Rattle.order.specs.Types.{member_in, defines, definitions_from, definitions, first_named, uses}
use Rattle.order.specs.Lookup.{of_array, element, listed, referred, referred_by, targets_in, targets}
use Rattle.order.specs.Steps.{Held, Defines, Within, Finds, target, Target, unmarked, left_in, any_among, IsLeft, MemberWaits, WaitsIn, Waits, IsReady, First, NextReady}
use Rattle.order.proofs.Lists.{clash, same_some, case, refuted, or_else, first_true, second_true, among_here, among_cases, each_below, some_below}
use Rattle.order.proofs.Taking.{uses_none}
use Rattle.order.proofs.Tables.{from_below, named_listed}
use Rattle.order.proofs.Lookups.{alike, row_is, uses_targets}
use Rattle.order.proofs.Loop.{keep_among}
use Rattle.order.proofs.Finding.{shown_rows_from, shown_past, place_within, finds_cases}

-- ---- what a tp type refers to

listed_if : (b : Bool) (o : Option ℕ) → listed (if b o none) ≡ if b (listed o) []
listed_if true o = refl
listed_if false o = refl

pub referred_targets : (t : List Row) (tp : Option (List ℕ)) → referred_by t tp ≡ listed (target t false tp) ++ listed (target t true tp)
unfolding target referred
referred_targets t none = refl
referred_targets t (some s) = rw (listed_if (of_array s) (first_named (element s) 0 t))

-- a row found is a definition
pub target_listed : (t : List Row) (less : Bool) (tp : Option (List ℕ)) (r : ℕ) → target t less tp ≡ some r → among r (definitions t) ≡ true
unfolding target
target_listed t less none r e = let z : ◌≡◌ {A = ℕ} 0 1 = cc in absurd (omega arith)
target_listed t false (some s) r e = named_listed t s r (row_is r (first_named s 0 t) e)
target_listed t true (some s) r e = go (of_array s) e
  where
    go : (b : Bool) → if b (first_named (element s) 0 t) none ≡ some r → among r (definitions t) ≡ true
    go true e = named_listed t (element s) r (row_is r (first_named (element s) 0 t) e)
    go false e = let z : ◌≡◌ {A = ℕ} 0 1 = cc in absurd (omega arith)

-- ---- definitions by their places

defines_from : (i k : ℕ) (t : List Row) (r : Row) (rs : List Row) → drop k t ≡ r ∷ rs → among (i + k) (definitions_from i t) ≡ defines r
defines_from i zero [] r rs e = let z : ◌≡◌ {A = ℕ} 0 1 = cc in absurd (omega arith)
defines_from i (suc k) [] r rs e = let z : ◌≡◌ {A = ℕ} 0 1 = cc in absurd (omega arith)
defines_from i zero (q ∷ t) r rs e =
    let p : q ≡ r = cc in
    rw (add-zero, p) (go (defines r))
  where
    go : (b : Bool) → among i (if b (i ∷ definitions_from (suc i) t) (definitions_from (suc i) t)) ≡ b
    go true = among_here i (definitions_from (suc i) t)
    go false = refuted (among i (definitions_from (suc i) t)) (λ m. omega (arith, from_below (suc i) t i m))
defines_from i (suc k) (q ∷ t) r rs e =
    let z : suc i + k ≡ i + suc k = omega arith in
    go (defines q) (rw z at (defines_from (suc i) k t r rs e))
  where
    go : (b : Bool) → among (i + suc k) (definitions_from (suc i) t) ≡ defines r → among (i + suc k) (if b (i ∷ definitions_from (suc i) t) (definitions_from (suc i) t)) ≡ defines r
    go true h = rw (ne_eqb (i + suc k) i (λ e. omega arith)) h
    go false h = h

pub defined_at : (d x ws : List ℕ) (n i : ℕ) → i < n → among i (definitions (rows_shown d x ws n)) ≡ defines (shown_row d x ws i)
defined_at d x ws n i h =
    rw zero-add at
    (defines_from 0 i (rows_shown d x ws n) (shown_row d x ws i) (drop (suc i) (rows_shown d x ws n)) (shown_rows_from d x ws n i h))

definitions_past : (i : ℕ) (t : List Row) (k : ℕ) → among k (definitions_from i t) ≡ true → k < i + length t
definitions_past i [] k m = clash m refl
definitions_past i (r ∷ t) k m = go (defines r) m (definitions_past (suc i) t k)
  where
    go : (b : Bool) → among k (if b (i ∷ definitions_from (suc i) t) (definitions_from (suc i) t)) ≡ true → (among k (definitions_from (suc i) t) ≡ true → k < suc i + length t) → k < i + suc (length t)
    go true m h = among_cases k i (definitions_from (suc i) t) m (λ e. omega arith) (λ l. omega (arith, h l))
    go false m h = omega (arith, h m)

pub length_shown : (d x ws : List ℕ) (n : ℕ) → length (rows_shown d x ws n) ≡ n
length_shown d x ws zero = refl
length_shown d x ws (suc n) = ap suc (length_shown d x (drop 16 ws) n)

pub defined_below : (d x ws : List ℕ) (n i : ℕ) → among i (definitions (rows_shown d x ws n)) ≡ true → i < n
defined_below d x ws n i m = omega (arith, definitions_past 0 (rows_shown d x ws n) i m, length_shown d x ws n)

-- ---- the rows left

module _ (t : List Row) (marks : List Bool) where
  pub left_among : (k : ℕ) → among k (left_in t marks) ≡ if (among k (definitions t)) (unmarked marks k) false
  unfolding left_in
  left_among k = keep_among (unmarked marks) k (definitions t)

  pub left_listed : (k : ℕ) → among k (left_in t marks) ≡ true → among k (definitions t) ≡ true
  left_listed k m = go (among k (definitions t)) refl (sym (left_among k) ∙ m)
    where
      go : (b : Bool) → among k (definitions t) ≡ b → if b (unmarked marks k) false ≡ true → among k (definitions t) ≡ true
      go true e f = e
      go false e f = clash f refl

  -- of a row found
  found_left : (less : Bool) (tp : Option (List ℕ)) (n : ℕ) (r : Maybe ℕ) (b : Bool) → Finds (target t less tp) n r → IsLeft marks r b → any_among (listed (target t less tp)) (left_in t marks) ≡ b
  found_left less tp n r b f l =
      finds_cases f
      (λ i e o. rw (o, left_among i, target_listed t less tp i o) (if_same (unmarked marks i) ∙ sym (l.some i e)))
      (λ e o. rw o (sym (l.none e)))

any_append : (a b l : List ℕ) → any_among (a ++ b) l ≡ if (any_among a l) true (any_among b l)
any_append [] b l = refl
any_append (x ∷ a) b l = go (among x l) (any_append a b l)
  where
    go : (t : Bool) → any_among (a ++ b) l ≡ if (any_among a l) true (any_among b l) → if t true (any_among (a ++ b) l) ≡ if (if t true (any_among a l)) true (any_among b l)
    go true h = refl
    go false h = h

referred_left : (t : List Row) (marks : List Bool) (tp : Option (List ℕ)) (n : ℕ) (r : Maybe ℕ) (b : Bool) → Finds (target t false tp) n r → IsLeft marks r b → any_among (referred_by t tp) (left_in t marks) ≡ if b true (any_among (listed (target t true tp)) (left_in t marks))
referred_left t marks tp n r b f l =
    ap (λ (js : List ℕ). any_among js (left_in t marks)) (referred_targets t tp)
    ∙ any_append (listed (target t false tp)) (listed (target t true tp)) (left_in t marks)
    ∙ ap (λ (c : Bool). if c true (any_among (listed (target t true tp)) (left_in t marks))) (found_left t marks false tp n r b f l)

module _ {d x ws : List ℕ} {marks : List Bool} {n m : ℕ} {r : Maybe ℕ} {b : Bool} (f : Target d x ws n false m r) (l : IsLeft marks r b) where
  pub member_whole : b ≡ true → MemberWaits d x ws n marks m true
  member_whole e = record { is = sym (referred_left (rows_shown d x ws n) marks (shown_row d x ws m).tp n r b f.finds l ∙ rw e) }

  pub member_less : {s : Maybe ℕ} {c : Bool} → b ≡ false → Target d x ws n true m s → IsLeft marks s c → MemberWaits d x ws n marks m c
  member_less {s} {c} e g k =
      let h = found_left (rows_shown d x ws n) marks true (shown_row d x ws m).tp n s c g.finds k in
      record { is = sym (referred_left (rows_shown d x ws n) marks (shown_row d x ws m).tp n r b f.finds l ∙ rw e h) }

pub row_held : {ws : List ℕ} {n i : ℕ} → Held ws n → i < n → i * 16 + 16 ≤ length ws
row_held h l = omega (arith, h.held)

module _ {marks : List Bool} {r : Maybe ℕ} where
  pub left_past : r ≡ None → IsLeft marks r false
  left_past e = record { some = λ k q. absurd (cc); none = λ q. refl }

  pub left_here : {i : ℕ} → r ≡ Some i → IsLeft marks r (not (get_or marks i false))
  left_here {i} e = record { some = λ k q. let z : i ≡ k = cc in rw z; none = λ q. absurd (cc) }

pub ruleset lefts = (left_past, left_here, place_within, rules)

-- a row found is one of the rows marked
pub target_within : {d x ws : List ℕ} {n m : ℕ} {less : Bool} {r : Maybe ℕ} → Target d x ws n less m r → Held ws n → Within r 262144
target_within f h = record { is = λ i e. omega (arith, f.finds.within.is i e, h.few) }

pub ruleset members = (target_within, member_whole, member_less, row_held, rules)

pub held_few : {ws : List ℕ} {n i : ℕ} → Held ws n → i < n → i ≤ 262144
held_few h l = omega (arith, h.few)

pub held_within : {ws : List ℕ} {n : ℕ} → Held ws n → n ≤ 262144
held_within h = h.few

-- ---- whether a row waits

waiting_step : (t : List Row) (i : ℕ) (row : Row) (rest : List Row) (left : List ℕ) (b : Bool) → b ≡ if (member_in i row) (any_among (referred_by t row.tp) left) false → any_among (targets_in t i (row ∷ rest)) left ≡ if b true (any_among (targets_in t i rest) left)
waiting_step t i row rest left b e = go (member_in i row) e
  where
    go : (c : Bool) → b ≡ if c (any_among (referred_by t row.tp) left) false → any_among (if c (referred_by t row.tp ++ targets_in t i rest) (targets_in t i rest)) left ≡ if b true (any_among (targets_in t i rest) left)
    go true e = rw e (any_append (referred_by t row.tp) (targets_in t i rest) left)
    go false e = rw e

-- a row that is a member and waits, or none
module _ (d x ws : List ℕ) (marks : List Bool) (n i : ℕ) where
  rest : ℕ → Bool
  rest k = any_among (targets_in (rows_shown d x ws n) i (drop k (rows_shown d x ws n))) (left_in (rows_shown d x ws n) marks)

  waits_here : (k : ℕ) → k < n → (b : Bool) → WaitsIn d x ws n marks i k b → rest k ≡ if b true (rest (suc k))
  unfolding rest
  waits_here k l b a =
      ap (λ (rs : List Row). any_among (targets_in (rows_shown d x ws n) i rs) (left_in (rows_shown d x ws n) marks)) (shown_rows_from d x ws n k l)
      ∙ waiting_step (rows_shown d x ws n) i (shown_row d x ws k) (drop (suc k) (rows_shown d x ws n)) (left_in (rows_shown d x ws n) marks) b a.is

  waits_some : (f j k : ℕ) → f + j ≡ k → k < n → WaitsIn d x ws n marks i k true → rest j ≡ true
  waits_some zero j k e l a = let z : k ≡ j = omega arith in waits_here j (omega arith) true (rw z at a)
  waits_some (suc f) j k e l a =
      let h = waits_some f (suc j) k (omega arith) l a in
      waits_here j (omega arith) _ (record { is = refl }) ∙ second_true _ (rest (suc j)) h

  waits_none : (f j : ℕ) → f + j ≡ n → ((k : ℕ) → k < n → WaitsIn d x ws n marks i k false) → rest j ≡ false
  unfolding rest
  waits_none zero j e h = rw (shown_past d x ws n j (omega arith))
  waits_none (suc f) j e h = waits_here j (omega arith) false (h j (omega arith)) ∙ waits_none f (suc j) (omega arith) h

  pub waits_any : (r : Bool) → MatchBool r ((k : ℕ) × (k < length (range_with_len 0 n)) × HoldsAt (λ k. WaitsIn d x ws n marks i k true) (range_with_len 0 n) k) (AllWithin (λ k. WaitsIn d x ws n marks i k false) (range_with_len 0 n) 0 (length (range_with_len 0 n))) → Waits d x ws n marks i r
  unfolding rest targets
  waits_any true h = let z = some_below (λ k. WaitsIn d x ws n marks i k true) n h in record { is = sym (waits_some z.0 0 z.0 (omega arith) z.1 z.2) }
  waits_any false h = record { is = sym (waits_none n 0 (omega arith) (each_below (λ k. WaitsIn d x ws n marks i k false) n h)) }

-- ---- ready rows

any_in : (js l : List ℕ) → any_among js l ≡ true → (j : ℕ) × (among j js ≡ true) × (among j l ≡ true)
any_in [] l e = clash e refl
any_in (j ∷ js) l e =
    or_else (among j l) (any_among js l) e
    (λ m. (j, among_here j js, m))
    (λ m. let h = any_in js l m in (h.0, among_there h.0 j js h.1, h.2))

in_any : (js l : List ℕ) (j : ℕ) → among j js ≡ true → among j l ≡ true → any_among js l ≡ true
in_any [] l j e m = clash e refl
in_any (k ∷ js) l j e m =
    among_cases j k js e
    (λ p. first_true (among k l) (any_among js l) (rw p at m))
    (λ p. second_true (among k l) (any_among js l) (in_any js l j p m))

uses_in : (uses : ℕ → ℕ → Bool) (i : ℕ) (l : List ℕ) → uses_any uses i l ≡ true → (j : ℕ) × (uses i j ≡ true) × (among j l ≡ true)
uses_in uses i [] e = clash e refl
uses_in uses i (j ∷ l) e =
    or_else (uses i j) (uses_any uses i l) e
    (λ u. (j, u, among_here j l))
    (λ u. let h = uses_in uses i l u in (h.0, h.1, among_there h.0 j l h.2))

-- a row uses a row left exactly when one of its targets is left
pub any_target : (t : List Row) (i : ℕ) (l : List ℕ) → uses_any (uses t) i l ≡ any_among (targets t i) l
any_target t i l =
    alike (uses_any (uses t) i l) (any_among (targets t i) l)
    (λ e. let h = uses_in (uses t) i l e in in_any (targets t i) l h.0 (sym (uses_targets t i h.0) ∙ h.1) h.2)
    (λ e. let h = any_in (targets t i) l e in
    case (uses_any (uses t) i l) (λ p. p) (λ p. clash h.2 (uses_none (uses t) i l p h.0 (uses_targets t i h.0 ∙ h.1))))

left_is : (d x ws : List ℕ) (n : ℕ) (marks : List Bool) (i : ℕ) (b : Bool) → i < n → Defines d x ws i b → among i (left_in (rows_shown d x ws n) marks) ≡ if b (unmarked marks i) false
left_is d x ws n marks i b l a = left_among (rows_shown d x ws n) marks i ∙ rw (defined_at d x ws n i l, ← a.is)

module _ {d x ws : List ℕ} {marks : List Bool} {n i : ℕ} {b : Bool} (l : i < n) (a : Defines d x ws i b) where
  pub ready_other : {r : Bool} → b ≡ false → r ≡ b → IsReady d x ws n marks i r
  ready_other e q = record { is = q ∙ rw (left_is d x ws n marks i b l a, e) }

  module _ (e : b ≡ true) where
    pub ready_given : {r : Bool} → r ≡ not (get_or marks i false) → r ≡ false → IsReady d x ws n marks i r
    ready_given q f = record { is = rw (f, left_is d x ws n marks i b l a, e, sym q ∙ f) }

    pub ready_left : {r w : Bool} → r ≡ not (get_or marks i false) → r ≡ true → Waits d x ws n marks i w → IsReady d x ws n marks i (not w)
    ready_left q f w = record {
      is = rw (left_is d x ws n marks i b l a, e, sym q ∙ f, any_target (rows_shown d x ws n) i (left_in (rows_shown d x ws n) marks), ← w.is);
    }

pub ruleset readiness = (ready_other, ready_given, ready_left, row_held, rules)

-- ---- the first ready row

-- no row before row k is left and ready
passed_to : {d x ws : List ℕ} {marks : List Bool} {n k : ℕ} → ((j : ℕ) → j < k → IsReady d x ws n marks j false) → (j : ℕ) → j < k → among j (left_in (rows_shown d x ws n) marks) ≡ true → ready (uses (rows_shown d x ws n)) (left_in (rows_shown d x ws n) marks) j ≡ false
passed_to {d} {x} {ws} {marks} {n} f j l m = go (among j (left_in (rows_shown d x ws n) marks)) (ready (uses (rows_shown d x ws n)) (left_in (rows_shown d x ws n) marks) j) m (f j l).is
  where
    go : (c r : Bool) → c ≡ true → false ≡ if c r false → r ≡ false
    go true r c f = sym f
    go false r c f = clash c refl

passed_here : (left : List ℕ) (p : ℕ → Bool) (k : ℕ) → ((j : ℕ) → j < k → among j left ≡ true → p j ≡ false) → true ≡ if (among k left) (p k) false → First p left k
passed_here left p k g e = go (among k left) refl (sym e)
  where
    go : (c : Bool) → among k left ≡ c → if c (p k) false ≡ true → First p left k
    go false c f = clash f refl
    go true c f = record { listed = c; holds = f; least = λ j m q. below j k (λ o. clash q (g j o m)) (λ o. o) }

-- the first of n rows that is left and ready, or none
pub ready_first : (d x ws : List ℕ) (marks : List Bool) (n : ℕ) (r : Maybe ℕ) → MatchOption r ((k : ℕ) → 0 ≤ k → k < n → IsReady d x ws n marks k false) (λ i. (0 ≤ i) × (i < n) × IsReady d x ws n marks i true × ((k : ℕ) → 0 ≤ k → k < i → IsReady d x ws n marks k false)) → NextReady (rows_shown d x ws n) n marks r
ready_first d x ws marks n None h = record {
  some = λ i e. absurd (cc);
  within = λ i e. absurd (cc);
  none = λ e j m. passed_to (λ k l. h k (omega arith) l) j (defined_below d x ws n j (left_listed (rows_shown d x ws n) marks j m)) m;
}
ready_first d x ws marks n (Some i) h =
    let f : First (ready (uses (rows_shown d x ws n)) (left_in (rows_shown d x ws n) marks)) (left_in (rows_shown d x ws n) marks) i =
    passed_here (left_in (rows_shown d x ws n) marks) (ready (uses (rows_shown d x ws n)) (left_in (rows_shown d x ws n) marks)) i (passed_to (λ k l. h.3 k (omega arith) l)) h.2.is in
    record { some = λ k e. rw (same_some e) at f; within = λ k e. omega (arith, same_some e, h.1); none = λ e. absurd (cc) }
