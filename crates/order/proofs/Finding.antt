-- Laws of looking names up: rows by their places, and the loop that seeks the first row of a name.
use Prim.Native.Nat.{ℕ, zero, suc, ◌+◌, ◌*◌, ◌-◌, ◌≤◌, ◌<◌}
use mathlib.Core.Path.{◌≡◌, refl, sym, ap, ◌∙◌}
use mathlib.Core.List.{List, [], ◌∷◌, map}
use mathlib.Core.Option.{Option, none, some}
use mathlib.Core.Bool.{Bool, true, false}
use borrow.Author.Rules.{rules}
use borrow.Author.Tests.{ne_eqb}
use native.Mathlib.Numerals.{add-one}
use native.Mathlib.Omega.{arith}
use lib.Dec.{eqb}
use lib.ListN.{length, drop, take, drop_of_length-le, length-take, length-drop}
use Rattle.std.specs.Prelude.{Option as Maybe, None, Some, IfSome, IfNone, MatchOption}
use Rattle.std.specs.Borrow.{Bor}
use Rattle.std.proofs.lemmas.List.{drop-map}
use Rattle.slices.specs.Bytes.{bytes, same, starts}
use Rattle.slices.proofs.Runs.{eqb_swap}
use Rattle.tables.specs.Triple.{shown}
use Rattle.tables.specs.declared.Triple.{Triple}
use Rattle.document.specs.Kinds as kinds
use Rattle.document.specs.Elements.{among}
use Rattle.items.specs.Words.{Word, TripleIs, row_of, rows_of, viewed, rows_shown, absent, shown_row}
use Rattle.items.specs.Content.{Row}
use Rattle.items.proofs.Rows.{row-at, length_rows_of}
use Rattle.items.proofs.Words.{word_in, present_shown}
use Rattle.order.specs.Types.{first_named}
use Rattle.order.specs.Steps.{Defines, HasName, MemberIn, Within, found, Finds, target, LastTwo, IsArray, ElementIs, Before, NoArray, IsSought, NoneSought, FirstNamed, Target}

-- ---- rows by their places

module _ (d x ws : List ℕ) (n : ℕ) where
  -- the rows from row i on begin with row i
  pub shown_rows_from : (i : ℕ) → i < n → drop i (rows_shown d x ws n) ≡ shown_row d x ws i ∷ drop (suc i) (rows_shown d x ws n)
  shown_rows_from i h =
      drop-map (viewed d x) i (rows_of n ws)
      ∙ ap (map (viewed d x)) (row-at n i ws h)
      ∙ ap (λ (l : List Row). shown_row d x ws i ∷ l) (sym (drop-map (viewed d x) (suc i) (rows_of n ws)))

  pub shown_past : (i : ℕ) → n ≤ i → drop i (rows_shown d x ws n) ≡ []
  shown_past i h =
      drop-map (viewed d x) i (rows_of n ws)
      ∙ ap (map (viewed d x)) (drop_of_length-le (rows_of n ws) {i = i} (omega (arith, length_rows_of n ws)))

-- ---- kinds

module _ {d x ws : List ℕ} {i k : ℕ} (a : Word ws i 0 k) where
  pub defines_one : (j : ℕ) → k ≡ j → among j kinds.definitions ≡ true → Defines d x ws i true
  defines_one j e t = record { is = rw (← word_in a, e, t) }

  pub defines_none : (k ≡ kinds.simple_type → ⊥) → (k ≡ kinds.enum → ⊥) → (k ≡ kinds.struct → ⊥) → (k ≡ kinds.mapping → ⊥) → Defines d x ws i false
  defines_none e f g h = record {
    is = rw (← word_in a, ne_eqb k kinds.simple_type e, ne_eqb k kinds.enum f, ne_eqb k kinds.struct g, ne_eqb k kinds.mapping h);
  }

  pub member_here : {p q : ℕ} → k ≡ kinds.member → Word ws i 1 q → MemberIn d x ws p i (eqb q (p + 1))
  member_here e b = record { is = rw (← word_in a, ← word_in b, e, add-one) }

  pub member_other : {p : ℕ} → (k ≡ kinds.member → ⊥) → MemberIn d x ws p i false
  member_other e = record { is = rw (← word_in a, ne_eqb k kinds.member e) }

pub ruleset rows = (defines_one, defines_none, member_here, member_other, rules)

-- ---- a name

module _ {d x ws s : List ℕ} {i : ℕ} {b : Bool} (a : Defines d x ws i b) where
  pub name_none : b ≡ false → HasName d x ws i s false
  name_none e = record { is = rw (← a.is, e) }

  pub name_same : {t : Triple} {l : List ℕ} {r : Bool} → b ≡ true → TripleIs ws i 2 t → l ≡ shown d x t → r ≡ same s l → HasName d x ws i s r
  name_same {t} {l} {r} e p q f = record {
    is = f ∙ rw (← a.is, e, present_shown d x (row_of (drop (i * 16) ws)).name, q, p.is);
  }

pub ruleset names = (name_none, name_same, rules)

-- ---- a row found

pub place_within : {r : Maybe ℕ} {n i : ℕ} → Within r n → r ≡ Some i → i < n
place_within w e = w.is _ e

module _ {o : Option ℕ} {n : ℕ} where
  pub found_here : {k : ℕ} → o ≡ some k → k < n → Finds o n (Some k)
  found_here {k} e l = record { is = sym (ap found e); within = record { is = λ i q. let z : k ≡ i = cc in rw z at l } }

  pub found_none : o ≡ none → Finds o n None
  found_none e = record { is = sym (ap found e); within = record { is = λ i q. absurd (cc) } }

  module _ {r : Maybe ℕ} (f : Finds o n r) where
    pub finds_some : {i : ℕ} → r ≡ Some i → o ≡ some i
    finds_some {i} e = go o f.is
      where
        go : (p : Option ℕ) → r ≡ found p → p ≡ some i
        go none q = cc
        go (some j) q = cc

    pub finds_none : r ≡ None → o ≡ none
    finds_none e = go o f.is
      where
        go : (p : Option ℕ) → r ≡ found p → p ≡ none
        go none q = refl
        go (some j) q = cc

    pub finds_cases : {P : Type 0} → ((i : ℕ) → r ≡ Some i → o ≡ some i → P) → (r ≡ None → o ≡ none → P) → P
    finds_cases {P} a b = go r refl
      where
        go : (q : Maybe ℕ) → r ≡ q → P
        go None e = b e (finds_none e)
        go (Some i) e = a i e (finds_some e)

-- ---- the first row of a name

pub record Seeking (d x ws : List ℕ) (n : ℕ) (s : List ℕ) (k : ℕ) : Type 0 where
  pub same : first_named s 0 (rows_shown d x ws n) ≡ first_named s k (drop k (rows_shown d x ws n))

first_found : {t : List Row} {s : List ℕ} {n : ℕ} {r : Maybe ℕ} → Finds (first_named s 0 t) n r → FirstNamed t s n r
first_found f = record { finds = f }

-- no row before row k has the name
seek_to : (d x ws s : List ℕ) (n k : ℕ) → k ≤ n → ((j : ℕ) → j < k → HasName d x ws j s false) → Seeking d x ws n s k
seek_to d x ws s n zero l f = record { same = refl }
seek_to d x ws s n (suc k) l f =
    let g = seek_to d x ws s n k (omega arith) (λ j h. f j (omega arith)) in
    record { same = g.same ∙ rw (shown_rows_from d x ws n k (omega arith), sym (f k (omega arith)).is) }

-- the first of n rows that has it, or none
pub seek_first : (d x ws s : List ℕ) (n : ℕ) (r : Maybe ℕ) → MatchOption r ((k : ℕ) → 0 ≤ k → k < n → HasName d x ws k s false) (λ i. (0 ≤ i) × (i < n) × HasName d x ws i s true × ((k : ℕ) → 0 ≤ k → k < i → HasName d x ws k s false)) → FirstNamed (rows_shown d x ws n) s n r
seek_first d x ws s n None h =
    let g = seek_to d x ws s n n (omega arith) (λ k l. h k (omega arith) l) in
    first_found (found_none (g.same ∙ rw (shown_past d x ws n n (omega arith))))
seek_first d x ws s n (Some i) h =
    let l : i < n = h.1 in
    let g = seek_to d x ws s n i (omega arith) (λ k q. h.3 k (omega arith) q) in
    first_found (found_here (g.same ∙ rw (shown_rows_from d x ws n i l, sym h.2.is)) l)

-- ---- a type less `[]`

-- a list that is no longer than its beginning is the same
starts_same : (a b : List ℕ) → length a ≤ length b → starts b a ≡ same a b
starts_same [] [] h = refl
starts_same [] (y ∷ b) h = refl
starts_same (x ∷ a) [] h = absurd (omega arith)
starts_same (x ∷ a) (y ∷ b) h = rw (starts_same a b (omega arith), eqb_swap x y)

pub array_is : {s : List ℕ} {e : ℕ} {b : Bool} → b ≡ starts (bytes "[]") (drop e s) → LastTwo s e → IsArray s b
array_is {s} {e} q p = record {
  is = q ∙ starts_same (drop e s) (bytes "[]") (simp length-drop (omega (arith, p.is))) ∙ rw p.is;
}

-- the bytes before the last two
pub front_length : {s : List ℕ} {e : ℕ} → LastTwo s e → e ≡ length (take e s)
front_length p = simp length-take (omega (arith, p.within))

pub element_is : {s : List ℕ} {e : ℕ} → LastTwo s e → ElementIs s (take e s)
element_is p = record { is = rw p.is }

pub ruleset parts = (array_is, front_length, element_is, rules)

pub two_is : {s : List ℕ} → length s < 2 → LastTwo s 0
two_is h = record { is = omega arith; within = omega arith }

pub two_less : {s : List ℕ} → 2 ≤ length s → LastTwo s (length s - 2)
two_less h = record { is = refl; within = omega arith }

pub ruleset ends = (two_is, two_less, rules)

-- ---- the tp type of a row

pub tp_is : {ws : List ℕ} {m : ℕ} {b : Bool} {p : Triple} → TripleIs ws m 8 p → b ≡ absent p → absent (row_of (drop (m * 16) ws)).tp ≡ b
tp_is t a = ap absent (sym t.is) ∙ sym a

pub tp_absent : {d x ws : List ℕ} {m : ℕ} {b less : Bool} {p : Triple} → TripleIs ws m 8 p → b ≡ absent p → b ≡ true → NoneSought d x ws less m
unfolding target
tp_absent {ws = ws} {m = m} t a e =
    let f : absent (row_of (drop (m * 16) ws)).tp ≡ true = tp_is t a ∙ e in
    record { is = λ u. rw f }

module _ (d x : List ℕ) {ws : List ℕ} {m : ℕ} {b : Bool} {p : Triple} {s : List ℕ} (t : TripleIs ws m 8 p) (a : b ≡ absent p) (e : b ≡ false) (q : s ≡ shown d x p) where
  present_tp : (shown_row d x ws m).tp ≡ some s
  present_tp =
      let f : absent (row_of (drop (m * 16) ws)).tp ≡ false = tp_is t a ∙ e in
      rw f (ap some (sym (q ∙ ap (shown d x) t.is)))

  tp_before : {less : Bool} {c : List ℕ} → less ≡ true → Before s c → IsSought d x ws less m c
  unfolding target
  tp_before l f = record { is = λ u. rw (present_tp, l, f.array, ← f.is) }

  tp_none : {less : Bool} → less ≡ true → NoArray s → NoneSought d x ws less m
  unfolding target
  tp_none l f = record { is = λ u. rw (present_tp, l, f.is) }

  pub tp_some : {less : Bool} (r : Maybe (Bor (List ℕ))) → less ≡ true → IfSome r (λ c. Before s c.now) → IfSome r (λ c. IsSought d x ws less m c.now)
  tp_some None l h = h
  tp_some (Some c) l h = tp_before l h

  pub tp_some_none : {less : Bool} (r : Maybe (Bor (List ℕ))) → less ≡ true → IfNone r (NoArray s) → IfNone r (NoneSought d x ws less m)
  tp_some_none None l h = tp_none l h
  tp_some_none (Some c) l h = h

pub tp_whole : {d x ws : List ℕ} {m : ℕ} {b less : Bool} {p : Triple} {s : List ℕ} → TripleIs ws m 8 p → b ≡ absent p → b ≡ false → s ≡ shown d x p → less ≡ false → IsSought d x ws less m s
unfolding target
tp_whole {d} {x} t a e q l = record { is = λ u. rw (present_tp d x t a e q, l) }

pub ruleset tps = (tp_absent, tp_whole, rules)

module _ {d x ws : List ℕ} {n m : ℕ} {less : Bool} where
  pub target_none : NoneSought d x ws less m → Target d x ws n less m None
  target_none q = record { finds = found_none (q.is (rows_shown d x ws n)) }

  pub target_named : {s : List ℕ} {r : Maybe ℕ} → IsSought d x ws less m s → FirstNamed (rows_shown d x ws n) s n r → Target d x ws n less m r
  target_named q f = record { finds = rw (q.is (rows_shown d x ws n)) f.finds }

pub ruleset targets = (target_none, target_named, rules)
