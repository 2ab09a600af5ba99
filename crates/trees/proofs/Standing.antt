-- Laws of how rows stand and of the search for children.
use Prim.Native.Nat.{ℕ, zero, suc, ◌+◌, ◌-◌, ◌*◌, ◌≤◌, ◌<◌}
use native.Mathlib.Omega.{arith}
use mathlib.Core.Path.{◌≡◌, refl, ap, sym, subst, ◌∙◌}
use mathlib.Core.List.{List}
use mathlib.Core.Bool.{Bool, true, false, not, ◌&&◌, and-false}
use borrow.Author.Rules.{rules}
use Rattle.std.proofs.Math.Logic.{∥∥₁_elim}
use Rattle.std.proofs.Math.Bool.{Bool-set}
use borrow.Author.Tests.{eq-eqb, ne_eqb, eqb-true, eqb-false, ltb-true, leb-true, leb-false, not-false}
use Rattle.std.proofs.lemmas.Bool.{not-true}
use lib.Dec.{eqb, leb, ltb}
use lib.ListN.{length, get_or}
use Rattle.std.specs.Bool.{MatchBool}
use Rattle.std.specs.List.{AllWithin, HoldsAt, range_with_len}
use Rattle.std.proofs.lemmas.List.FromFn.{length-range_with_len, get_or-range_with_len}
use Rattle.utf8.proofs.Sequences.{below}
use Rattle.document.specs.Kinds as kinds
use Rattle.document.specs.Elements.{among}
use Rattle.document.proofs.Tests.{never, among_each}
use Rattle.items.specs.Words.{word_at, Word}
use Rattle.items.specs.Order.{parent_at}
use Rattle.items.proofs.Order.{follow_falls, run_ends}
use Rattle.trees.specs.Shape.{types, args, members, annotations, nodes}
use Rattle.trees.specs.Steps.{group_kinds, group_of, Held, NodesLast, Stands, child_in, Next, HasChild, RowsHeld, RowKept, Late, LastNode, NodesStand, Asked, Child, Past, RunPast, GroupPast}
use Rattle.std.specs.Prelude.{Ok, Err}
use Rattle.trees.specs.declared.children.Standing.{Standing}

-- ---- the group of a kind

-- a kind is in one group
pub group_is : (g k : ℕ) → among k (group_kinds g) ≡ true → group_of k ≡ g
group_is zero k e = among_each (λ j. group_of j ≡ 0) k types e (refl, (refl, (refl, (refl, tt))))
group_is (suc zero) k e = among_each (λ j. group_of j ≡ 1) k args e (refl, tt)
group_is (suc (suc zero)) k e = among_each (λ j. group_of j ≡ 2) k members e (refl, (refl, (refl, (refl, (refl, (refl, tt))))))
group_is (suc (suc (suc zero))) k e = among_each (λ j. group_of j ≡ 3) k annotations e (refl, tt)
group_is (suc (suc (suc (suc zero)))) k e = among_each (λ j. group_of j ≡ 4) k nodes e (refl, tt)
group_is (suc (suc (suc (suc (suc g))))) k e = never e

node_not : (g : ℕ) → g < 4 → among kinds.node (group_kinds g) ≡ false
node_not zero l = refl
node_not (suc zero) l = refl
node_not (suc (suc zero)) l = refl
node_not (suc (suc (suc zero))) l = refl
node_not (suc (suc (suc (suc g)))) l = absurd (omega (arith, l))

-- ---- nodes stand last

pub late_self : {ws : List ℕ} {k node a : ℕ} → Word ws k 0 a → a ≡ kinds.node → Late ws k node false
late_self w h = record { late = λ e. never e; not = λ e f g. absurd (f (sym w.is ∙ h)) }

module _ {ws : List ℕ} {k node p a : ℕ} (w : Word ws k 1 p) (v : Word ws (p - 1) 0 a) where
  pub late_other : (a ≡ kinds.node → ⊥) → Late ws k node false
  late_other h = record { late = λ e. never e; not = λ e g f. absurd (h (v.is ∙ ap (λ j. word_at ws (j - 1) 0) w.is ∙ f)) }

  pub late_node : {b : ℕ} → RowKept ws k → Word ws k 0 b → (b ≡ kinds.node → ⊥) → a ≡ kinds.node → Late ws k node (not (eqb (p - 1) node))
  late_node h u f g = record {
    late = λ e. (
      (λ z. f (u.is ∙ z)),
      sym (v.is ∙ ap (λ j. word_at ws (j - 1) 0) w.is) ∙ g,
      λ z. eqb-false (p - 1) node (not-true (eqb (p - 1) node) e) (omega (arith, w.is, z)),
    );
    not = λ e g f. omega (arith, w.is, h.above, eqb-true (p - 1) node (not-false (eqb (p - 1) node) e));
  }

pub ruleset lates = (late_self, late_other, late_node, rules)

-- a loop over the rows from row 1 on: node is the last node up to here, or 0
pub record Lasting (ws : List ℕ) (node k : ℕ) : Type 0 where
  pub some : 0 < k
  pub low : node < k
  pub kind : 0 < node → word_at ws node 0 ≡ kinds.node
  pub seen : (j : ℕ) → j < k → word_at ws j 0 ≡ kinds.node → j ≤ node
  pub last : NodesLast ws k

pub last_begins : (ws : List ℕ) → Lasting ws 0 1
last_begins ws = record { some = omega arith; low = omega arith; kind = λ l. absurd (omega (arith, l)); seen = λ j l e. omega (arith, l); last = λ j k a b. absurd (omega (arith, a, b)) }

pub last_held : {ws : List ℕ} {n k : ℕ} → RowsHeld ws n → 0 < k → k < n → RowKept ws k
last_held {k = k} h a b = let p = h.parents k b a in record { held = omega (arith, h.held, b); above = p.0; before = p.1 }

module _ {ws : List ℕ} {node k : ℕ} (g : Lasting ws node k) where
  pub last_ends : {n : ℕ} → n ≤ k → NodesStand ws n true
  last_ends l = record { last = λ e i j a b. g.last i j a (omega (arith, b, l)); exact = λ o. refl }

  pub last_kept : {n : ℕ} → RowsHeld ws n → k < n → RowKept ws k
  last_kept h b = last_held h g.some b

  -- row k stands late: after the last node, and in another
  pub last_stops : {n : ℕ} {b : Bool} → RowsHeld ws n → k < n → Late ws k node b → b ≡ true → NodesStand ws n false
  last_stops {n} h l a e = record { last = λ t. never t; exact = λ o. absurd (late o (a.late e)) }
    where
      late : NodesLast ws n → (word_at ws k 0 ≡ kinds.node → ⊥) × (word_at ws (word_at ws k 1 - 1) 0 ≡ kinds.node) × (word_at ws k 1 ≡ suc node → ⊥) → ⊥
      late o t =
          let r = last_held h g.some l in
          let s : word_at ws k 1 - 1 ≤ node = g.seen (word_at ws k 1 - 1) (omega (arith, r.above, r.before)) t.1 in
          let m : word_at ws k 1 ≤ node = below (word_at ws k 1) (suc node) (λ d. omega (arith, d)) (λ d. absurd (t.2 (omega (arith, d, s)))) in
          let p = o node k g.low l (g.kind (omega (arith, r.above, m))) (ne_eqb (word_at ws k 0) kinds.node t.0) t.1 in
          omega (arith, p, m)

  pub last_more : {b : Bool} {r : ℕ} → Late ws k node b → b ≡ false → LastNode ws k node r → Lasting ws r (k + 1)
  last_more {b} {r} h q v = go (eqb (word_at ws k 0) kinds.node) refl
    where
      go : (t : Bool) → eqb (word_at ws k 0) kinds.node ≡ t → Lasting ws r (k + 1)
      go true y =
          let f : word_at ws k 0 ≡ 1 = eqb-true (word_at ws k 0) kinds.node y in
          let x : r ≡ k = v.here f in
          record {
            some = omega arith;
            low = omega (arith, x);
            kind = λ l. ap (λ u. word_at ws u 0) x ∙ f;
            seen = λ j l e. omega (arith, l, x);
            last = λ i j a b c d e. below j k (λ l. g.last i j a l c d e) (λ l.
                let z : k ≡ j = omega (arith, l, b) in
                absurd (eqb-false (word_at ws j 0) kinds.node d (ap (λ u. word_at ws u 0) (sym z) ∙ f)));
          }
      go false y =
          let f : word_at ws k 0 ≡ 1 → ⊥ = eqb-false (word_at ws k 0) kinds.node y in
          let x : r ≡ node = v.before f in
          record {
            some = omega arith;
            low = omega (arith, x, g.low);
            kind = λ l. ap (λ u. word_at ws u 0) x ∙ g.kind (omega (arith, x, l));
            seen = λ j l e. below j k (λ m. omega (arith, x, g.seen j m e)) (λ m.
                let z : k ≡ j = omega (arith, l, m) in
                absurd (f (ap (λ u. word_at ws u 0) z ∙ e)));
            last = λ i j a b c d e. below j k (λ l. g.last i j a l c d e) (λ l.
                let z : j ≡ k = omega (arith, l, b) in
                let y : word_at ws k 1 ≡ suc node = h.not q f (ap (λ u. word_at ws (word_at ws u 1 - 1) 0) (sym z) ∙ e) in
                let w : word_at ws j 1 ≡ suc node = ap (λ u. word_at ws u 1) z ∙ y in
                omega (arith, w, g.seen i (omega (arith, a, z)) c));
          }

pub ruleset lasts = (last_begins, last_stops, last_ends, last_kept, last_more, rules)

-- ---- one row

not_child : (ws : List ℕ) (g i m : ℕ) → (word_at ws m 1 ≡ suc i → ⊥) → child_in ws g i m ≡ false
not_child ws g i m h = rw (ne_eqb (word_at ws m 1) (suc i) h, and-false)

module _ {ws : List ℕ} {i g k p : ℕ} (w : Word ws k 1 p) where
  pub child_other : (p ≡ i + 1 → ⊥) → Child ws i g k false
  child_other h = record { is = sym (not_child ws g i k (λ e. h (omega (arith, e, w.is)))) }

  pub child_is : {a r : ℕ} → p ≡ i + 1 → Asked ws i g k → Word ws k 0 a → r ≡ group_of a → Child ws i g k (eqb r g)
  child_is {a} {r} h q v e = record { is = ap (λ j. eqb j g) (e ∙ ap (λ j. group_of j) v.is) ∙ go (among (word_at ws k 0) (group_kinds g)) refl }
    where
      go : (b : Bool) → among (word_at ws k 0) (group_kinds g) ≡ b → eqb (group_of (word_at ws k 0)) g ≡ b && eqb (word_at ws k 1) (suc i)
      go true f = eq-eqb (group_of (word_at ws k 0)) g (group_is g (word_at ws k 0) f) ∙ sym (eq-eqb (word_at ws k 1) (suc i) (omega (arith, h, w.is)))
      go false f = ne_eqb (group_of (word_at ws k 0)) g (λ y. never (sym f ∙ ap (λ j. among (word_at ws k 0) (group_kinds j)) (sym y) ∙ q.grouped))

pub ruleset childs = (child_other, child_is, rules)

module _ {ws : List ℕ} {i k : ℕ} {s : Standing} where
  pub run_not : s.ordered ≡ false → RunPast ws i k s false
  run_not o = record { none = λ e. never e; inside = λ e f. never (sym o ∙ f) }

  pub run_past : {p : ℕ} → i < k → s.ordered ≡ true → Word ws k 1 p → RunPast ws i k s (leb p i)
  run_past {p} l o w = record {
    none = λ e g n st m a b.
        let h : parent_at ws k ≤ i = omega (arith, leb-true p i e, w.is) in
        not_child ws g i m (run_ends (parent_at ws) n (st.ordered o).under i k l h m a b);
    inside = λ e f. omega (arith, leb-false p i e, w.is);
  }

pub ruleset runs = (run_not, run_past, rules)

pub group_no : {ws : List ℕ} {i g k : ℕ} {s : Standing} → GroupPast ws i g k s false
group_no = record { none = λ e. never e }

pub group_past : {ws : List ℕ} {i g k p a b : ℕ} {s : Standing} → Asked ws i g k → s.last ≡ true → Word ws k 1 p → p ≡ i + 1 → Word ws k 0 a → a ≡ kinds.node → Word ws i 0 b → b ≡ kinds.node → GroupPast ws i g k s (ltb g 4)
group_past {ws} {i} {g} {k} {p} {a} {b} {s} q o w e v f u h = record { none = λ y n st m l r. go y n st m l r (eqb (word_at ws m 0) kinds.node) refl }
  where
    node_row : word_at ws k 0 ≡ kinds.node
    node_row = sym v.is ∙ f

    go : ltb g 4 ≡ true → (n : ℕ) → Stands ws n s → (m : ℕ) → k ≤ m → m < n → (t : Bool) → eqb (word_at ws m 0) kinds.node ≡ t → child_in ws g i m ≡ false
    go y n st m l r true z =
        let c : word_at ws m 0 ≡ 1 = eqb-true (word_at ws m 0) kinds.node z in
        rw (c, node_not g (ltb-true g 4 y))
    go y n st m l r false z = below k m
        (λ x. not_child ws g i m (λ d.
        let c : word_at ws m 1 - 1 ≡ i = omega (arith, d) in
        let t = st.last o k m x r node_row z (ap (λ j. word_at ws j 0) c ∙ sym u.is ∙ h) in
        absurd (omega (arith, t, d, q.after))))
        (λ x.
        let c : m ≡ k = omega (arith, x, l) in
        absurd (eqb-false (word_at ws m 0) kinds.node z (ap (λ j. word_at ws j 0) c ∙ node_row)))

pub ruleset pasts = (group_no, group_past, rules)

pub past_run : {ws : List ℕ} {i g k : ℕ} {s : Standing} {b : Bool} → RunPast ws i k s b → b ≡ true → Past ws i g k s true
past_run {g = g} r e = record { none = λ _ n. r.none e g n; inside = λ f. never (sym f) }

pub past_group : {ws : List ℕ} {i g k : ℕ} {s : Standing} {b c : Bool} → RunPast ws i k s b → b ≡ false → GroupPast ws i g k s c → Past ws i g k s c
past_group r e h = record { none = h.none; inside = λ _. r.inside e }

pub ruleset either_past = (past_run, past_group, rules)

-- ---- the next child

-- a search from a row on that stands at row k
pub record Looking (ws : List ℕ) (n i g from : ℕ) (s : Standing) (k : ℕ) : Type 0 where
  pub onward : from ≤ k
  pub within : k ≤ n
  pub none : (m : ℕ) → from ≤ m → m < k → child_in ws g i m ≡ false
  pub passed : s.ordered ≡ true → (m : ℕ) → from ≤ m → m < k → i < word_at ws m 1

pub look_begins : {ws : List ℕ} {n i g from : ℕ} {s : Standing} → from ≤ n → Looking ws n i g from s from
look_begins l = record {
  onward = omega arith;
  within = l;
  none = λ m a b. absurd (omega (arith, a, b));
  passed = λ o m a b. absurd (omega (arith, a, b));
}

module _ {ws : List ℕ} {n i g from k : ℕ} {s : Standing} (h : Looking ws n i g from s k) (l : k < n) where
  pub look_asked : {d x : List ℕ} → Held d x ws n → i < from → g < 5 → Asked ws i g k
  look_asked q a c = record {
    few = omega (arith, q.few, l);
    held = omega (arith, q.held, l);
    after = omega (arith, a, h.onward);
    group = c;
    grouped = q.grouped k l;
  }

  pub look_past : {b : Bool} → ∥ Stands ws n s ∥₁ → Past ws i g k s b → b ≡ true → Next ws n i g from s (Err k)
  look_past q p e = record {
    is = record {
      onward = h.onward;
      within = h.within;
      none = λ m a b. below m k (λ c. h.none m a c) (λ c. ∥∥₁_elim q (Bool-set _ _) (λ z. p.none e n z m c b));
      passed = h.passed;
    };
  }

module _ {ws : List ℕ} {n i g from k : ℕ} {s : Standing} (h : Looking ws n i g from s k) where
  pub look_ends : n ≤ k → Next ws n i g from s (Err n)
  look_ends l =
      let z : k ≡ n = omega (arith, l, h.within) in
      record {
        is = record {
          onward = omega (arith, z, h.onward);
          within = omega arith;
          none = λ m a b. h.none m a (omega (arith, b, z));
          passed = λ o m a b. h.passed o m a (omega (arith, b, z));
        };
      }

  module _ (l : k < n) {b : Bool} (c : Child ws i g k b) where
    pub look_found : b ≡ true → Next ws n i g from s (Ok k)
    look_found e = record { is = record { onward = h.onward; within = l; is = sym c.is ∙ e; none = h.none; passed = h.passed } }

    pub look_more : {t : Bool} → b ≡ false → Past ws i g k s t → t ≡ false → Looking ws n i g from s (k + 1)
    look_more e p f = record {
      onward = omega (arith, h.onward);
      within = omega (arith, l);
      none = λ m a d. below m k (λ y. h.none m a y) (λ y.
          let z : k ≡ m = omega (arith, d, y) in
          rw z at (sym c.is ∙ e));
      passed = λ o m a d. below m k (λ y. h.passed o m a y) (λ y.
          let z : k ≡ m = omega (arith, d, y) in
          rw z at (p.inside f o));
    }

pub ruleset looks = (look_begins, look_asked, look_past, look_ends, look_found, look_more, rules)

-- ---- whether there is a child

module _ {ws : List ℕ} {n i : ℕ} {s : Standing} where
  -- in document order
  module _ (q : ∥ Stands ws n s ∥₁) (o : s.ordered ≡ true) where
    pub have_past : n ≤ i + 1 → HasChild ws n i false
    have_past l = record { some = λ e. never e; none = λ _ m a b. absurd (omega arith) }

    module _ (l : i + 1 < n) {p : ℕ} (w : Word ws (i + 1) 1 p) where
      pub have_next : p ≡ i + 1 → HasChild ws n i true
      have_next e = record { some = λ _. (i + 1, omega arith, l, omega (arith, e, w.is)); none = λ f. never (sym f) }

      pub have_none : (p ≡ i + 1 → ⊥) → HasChild ws n i false
      have_none e = record { some = λ f. never f; none = λ _ m a b f. ∥∥₁_elim q (λ u v. absurd u) (λ z. over z m a b f) }
        where
          over : Stands ws n s → (m : ℕ) → i < m → m < n → word_at ws m 1 ≡ suc i → ⊥
          over q m a b f =
              let d = q.ordered o in
              let k = i + 1 in
              let c = follow_falls (parent_at ws) n d.under k l in
              let y : parent_at ws k ≤ i = below (parent_at ws k) (i + 1) (λ x. omega (arith, x)) (λ x. absurd (e (omega (arith, x, c, w.is)))) in
              run_ends (parent_at ws) n d.under i k (omega arith) y m (omega (arith, a)) b f

      pub have_either : HasChild ws n i (eqb p (i + 1))
      have_either = go (eqb p (i + 1)) refl
        where
          go : (b : Bool) → eqb p (i + 1) ≡ b → HasChild ws n i b
          go true e = have_next (eqb-true p (i + 1) e)
          go false e = have_none (eqb-false p (i + 1) e)

-- in any order
module _ {ws : List ℕ} {n i : ℕ} where
  pub have_any : (r : Bool) → MatchBool r ((k : ℕ) × (k < length (range_with_len (i + 1) (n - (i + 1)))) × HoldsAt (λ k. word_at ws k 1 ≡ i + 1) (range_with_len (i + 1) (n - (i + 1))) k) (AllWithin (λ k. word_at ws k 1 ≡ i + 1 → ⊥) (range_with_len (i + 1) (n - (i + 1))) 0 (length (range_with_len (i + 1) (n - (i + 1))))) → HasChild ws n i r
  have_any true h =
      let m = n - (i + 1) in
      let l : h.0 < m = omega (arith, h.1, length-range_with_len (i + 1) m) in
      let e : word_at ws (i + 1 + h.0) 1 ≡ i + 1 = subst (λ j. word_at ws j 1 ≡ i + 1) (get_or-range_with_len (i + 1) m h.0 0 l) (h.2 0) in
      record { some = λ _. (i + 1 + h.0, omega arith, omega (arith, l), omega (arith, e)); none = λ f. never (sym f) }
  have_any false h =
      let m = n - (i + 1) in
      record {
        some = λ f. never f;
        none = λ _ k a b f.
            subst (λ j. word_at ws j 1 ≡ i + 1 → ⊥) {x = get_or (range_with_len (i + 1) m) (k - (i + 1)) 0} {y = k} (omega (arith, a, b, get_or-range_with_len (i + 1) m (k - (i + 1)) 0 (omega (arith, a, b)))) (h (k - (i + 1)) 0 (omega arith) (omega (arith, a, b, length-range_with_len (i + 1) m))) (omega (arith, f));
      }

-- row k of the table is held
module _ {d x ws : List ℕ} {n k : ℕ} (h : Held d x ws n) (l : k < n) where
  pub held_row : k * 16 + 16 ≤ length ws
  held_row = omega (arith, h.held, l)

  pub held_few : k < 262144
  held_few = omega (arith, h.few, l)

pub ruleset haves = (held_row, held_few, have_past, have_either, rules)
