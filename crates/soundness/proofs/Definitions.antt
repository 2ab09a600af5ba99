-- Document order, and the members of a definition from a row on.
use Prim.Native.Nat.{ℕ, zero, suc, ◌+◌, ◌*◌, ◌-◌, ◌≤◌, ◌<◌}
use mathlib.Core.Path.{◌≡◌, refl, sym, ap, ◌∙◌}
use mathlib.Core.List.{List, [], ◌∷◌}
use mathlib.Core.Bool.{Bool, true, false, not, and-false}
use Rattle.std.specs.Prelude.{Option, None, Some, is_some}
use borrow.Author.Rules.{rules}
use borrow.Author.Tests.{eq-eqb, ne_eqb, eqb-true}
use native.Mathlib.Nat.{add-zero, zero-add}
use native.Mathlib.Numerals.{add-one}
use native.Mathlib.Omega.{arith}
use lib.Dec.{eqb}
use lib.ListN.{drop, get_or, drop_of_length-le}
use Rattle.utf8.proofs.Sequences.{below}
use Rattle.names.specs.Signature.{basic_signature}
use Rattle.tables.specs.Triple.{shown}
use Rattle.tables.specs.declared.Triple.{Triple}
use Rattle.document.specs.Kinds as kinds
use Rattle.items.specs.Words.{RowWords, Word, TripleIs, row_of, rows_of, is_child}
use Rattle.items.specs.Sound.{members_of, any_member, counted}
use Rattle.items.specs.Order.{parent_at, Under, DocumentOrder}
use Rattle.items.proofs.Rows.{length_rows_of, row-at, row_word}
use Rattle.items.proofs.Words.{word_in}
use Rattle.items.proofs.Order.{under_up, under_before, follow_falls, run_ends}
use Rattle.soundness.specs.Outcome.{Follows, Orders, Member, members_from, FirstMember, NextMember, Basic, Keyed, Counted}

-- ---- document order

-- a walk up from row k, which stands at u, a row plus one
pub record Walk (ws : List ℕ) (k p u : ℕ) : Type 0 where
  pub down : Under (parent_at ws) p u → Under (parent_at ws) p k
  pub up : Under (parent_at ws) p k → Under (parent_at ws) p u
  pub within : u ≤ k

pub walk_begins : (ws : List ℕ) (k p : ℕ) → Walk ws k p k
walk_begins ws k p = record { down = λ h. h; up = λ h. h; within = omega arith }

module _ {ws : List ℕ} {k p u : ℕ} (o : DocumentOrder ws k) (g : Walk ws k p u) where
  -- each step goes to a smaller row
  pub walk_falls : {w : ℕ} → p < u → Word ws (u - 1) 1 w → w < u
  walk_falls h a = omega (arith, follow_falls (parent_at ws) k o.under (u - 1) (omega (arith, g.within)), a.is)

  pub walk_more : {w : ℕ} → p < u → Word ws (u - 1) 1 w → Walk ws k p w
  walk_more {w} h a =
      let e : u ≡ suc (u - 1) = omega arith in
      let l = walk_falls h a in
      record {
        down = λ q. g.down (rw e (Under.above (rw a.is at q)));
        up = λ q. rw a.is (under_up (g.up q) (u - 1) e (λ z. absurd (omega arith)));
        within = omega (arith, g.within);
      }

  pub walk_ends : u ≤ p → Word ws k 1 p → Follows ws k (eqb u p)
  walk_ends h a = record {
    is = λ e. let z : u ≡ p = eqb-true u p e in rw (← a.is) (g.down (rw z Under.itself));
    exact = λ q. eq-eqb u p (omega (arith, h, under_before k (follow_falls (parent_at ws) k o.under) (g.up (rw a.is q)) g.within));
  }

pub ruleset walks = (walk_begins, walk_falls, walk_more, walk_ends, rules)

pub order_begins : (ws : List ℕ) → DocumentOrder ws 0
order_begins ws = record { under = λ k l. absurd (omega arith) }

module _ {ws : List ℕ} {k : ℕ} (o : DocumentOrder ws k) where
  pub order_ends : {n : ℕ} → n ≤ k → Orders ws n true
  order_ends l = record { is = λ e. record { under = λ j m. o.under j (omega arith) }; exact = λ q. refl }

  module _ {b : Bool} (f : Follows ws k b) where
    pub order_stops : {n : ℕ} → k < n → b ≡ false → Orders ws n false
    order_stops l q = record { is = λ e. let z : ◌≡◌ {A = ℕ} 0 1 = cc in absurd (omega arith); exact = λ d. sym q ∙ f.exact (d.under k l) }

    pub order_more : b ≡ true → DocumentOrder ws (k + 1)
    order_more q = record {
      under = λ j m. below j k (λ l. o.under j l) (λ l. let z : k ≡ j = omega arith in rw (← z) (f.is q));
    }

pub ruleset orders = (order_begins, order_ends, order_stops, order_more, rules)

-- ---- members from a row on

module _ (ws : List ℕ) (n i : ℕ) where
  -- whether row k is one of them, by its words
  abbrev member_at : ℕ → Bool
  member_at k = is_child kinds.member (suc i) (row_of (drop (k * 16) ws)).kind (row_of (drop (k * 16) ws)).parent

  members_past : (k : ℕ) → n ≤ k → members_from ws n i k ≡ []
  members_past k l = ap (λ (rs : List RowWords). members_of (suc i) rs) (drop_of_length-le (rows_of n ws) {i = k} (omega (arith, length_rows_of n ws)))

  module _ (k : ℕ) (l : k < n) where
    member_here : member_at k ≡ true → members_from ws n i k ≡ row_of (drop (k * 16) ws) ∷ members_from ws n i (suc k)
    member_here e = rw (row-at n k ws l, e)

    member_next : member_at k ≡ false → members_from ws n i k ≡ members_from ws n i (suc k)
    member_next e = rw (row-at n k ws l, e)

  -- a row with another parent is none
  not_member : (k : ℕ) → (parent_at ws k ≡ suc i → ⊥) → member_at k ≡ false
  not_member k h =
      let e : get_or (drop (k * 16) ws) 1 0 ≡ parent_at ws k = row_word k 1 ws in
      rw (ne_eqb (get_or (drop (k * 16) ws) 1 0) (suc i) (λ q. h (sym e ∙ q)), and-false)

  -- none of f rows from row k on has that parent
  members_skip : (f k : ℕ) → k + f ≤ n → ((m : ℕ) → k ≤ m → m < k + f → parent_at ws m ≡ suc i → ⊥) → members_from ws n i k ≡ members_from ws n i (k + f)
  members_skip zero k l h = rw add-zero
  members_skip (suc f) k l h =
      let e : suc k + f ≡ k + suc f = omega arith in
      member_next k (omega arith) (not_member k (h k (omega arith) (omega arith)))
      ∙ rw e at (members_skip f (suc k) (omega arith) (λ m a b. h m (omega arith) (omega arith)))

  -- no row from row k on has it
  members_none : (k : ℕ) → k ≤ n → ((m : ℕ) → k ≤ m → m < n → parent_at ws m ≡ suc i → ⊥) → members_from ws n i k ≡ []
  members_none k l h =
      let e : k + (n - k) ≡ n = omega arith in
      rw e at (members_skip (n - k) k (omega arith) (λ m a b. h m a (omega arith))) ∙ members_past n (omega arith)

  -- in document order the members of row i stand after it
  members_after : i < n → DocumentOrder ws n → members_of (suc i) (rows_of n ws) ≡ members_from ws n i (suc i)
  members_after l o =
      rw zero-add at
      (members_skip (suc i) 0 (omega arith) (λ m a b e. absurd (omega (arith, follow_falls (parent_at ws) n o.under m (omega arith)))))

-- ---- the next member

pub one_member : {ws : List ℕ} {i k a p : ℕ} → Word ws k 0 a → a ≡ kinds.member → Word ws k 1 p → Member ws i k (eqb p (i + 1))
one_member a e p = record { is = rw (← word_in a, ← word_in p, e, add-one) }

pub other_kind : {ws : List ℕ} {i k a : ℕ} → Word ws k 0 a → (a ≡ kinds.member → ⊥) → Member ws i k false
other_kind {a = k} a e = record { is = rw (← word_in a, ne_eqb k kinds.member e) }

pub ruleset members = (one_member, other_kind, rules)

-- a search from a row on that stands at row k
pub record Seeking (ws : List ℕ) (n i from k : ℕ) : Type 0 where
  pub onward : i < k
  pub same : members_from ws n i from ≡ members_from ws n i k

pub seek_begins : (ws : List ℕ) (n i from : ℕ) → i < from → Seeking ws n i from from
seek_begins ws n i from l = record { onward = l; same = refl }

module _ {ws : List ℕ} {n i from k : ℕ} (g : Seeking ws n i from k) where
  nowhere : members_from ws n i from ≡ [] → NextMember ws n i from None
  nowhere e = record { some = λ k h. let z : ◌≡◌ {A = ℕ} 0 1 = cc in absurd (omega arith); none = λ h. e }

  pub seek_ends : n ≤ k → NextMember ws n i from None
  seek_ends h = nowhere (g.same ∙ members_past ws n i k h)

  module _ (l : k < n) where
    pub seek_run_ends : {p : ℕ} → DocumentOrder ws n → Word ws k 1 p → p ≤ i → NextMember ws n i from None
    seek_run_ends o p h =
        nowhere
        (g.same ∙ members_none ws n i k (omega arith) (run_ends (parent_at ws) n o.under i k g.onward (omega (arith, p.is))))

    module _ {b : Bool} (m : Member ws i k b) where
      pub seek_found : b ≡ true → NextMember ws n i from (Some k)
      seek_found e = record {
        some = λ j h. let z : k ≡ j = cc in rw (← z) here;
        none = λ h. let z : ◌≡◌ {A = ℕ} 0 1 = cc in absurd (omega arith);
      }
        where
          here : FirstMember ws n i from k
          here = record { onward = g.onward; inside = l; is = g.same ∙ member_here ws n i k l (sym m.is ∙ e) }

      pub seek_more : b ≡ false → Seeking ws n i from (k + 1)
      seek_more e = record { onward = omega (arith, g.onward); same = g.same ∙ rw add-one (member_next ws n i k l (sym m.is ∙ e)) }

pub ruleset seeks = (seek_begins, seek_ends, seek_run_ends, seek_found, seek_more, rules)

-- ---- a mapping's, and those that a kind needs

pub basic : {d x ws : List ℕ} {k : ℕ} {t : Triple} {s : List ℕ} {r : Bool} → TripleIs ws k 5 t → s ≡ shown d x t → r ≡ basic_signature s → Basic d x ws k r
basic w e q = record { is = q ∙ rw (e, w.is) }

pub ruleset basics = (basic, rules)

module _ (d x : List ℕ) {ws : List ℕ} {n i : ℕ} where
  pub no_key : NextMember ws n i (i + 1) None → Keyed d x ws n i false
  no_key a = record { is = rw (rw add-one at (a.none refl)) }

  module _ {k : ℕ} (a : NextMember ws n i (i + 1) (Some k)) where
    first : members_from ws n i (suc i) ≡ row_of (drop (k * 16) ws) ∷ members_from ws n i (suc k)
    first = rw add-one at (a.some k refl).is

    pub no_value : NextMember ws n i (k + 1) None → Keyed d x ws n i false
    no_value b = record { is = rw (first, rw add-one at (b.none refl)) }

    module _ {v : ℕ} (b : NextMember ws n i (k + 1) (Some v)) where
      second : members_from ws n i (suc k) ≡ row_of (drop (v * 16) ws) ∷ members_from ws n i (suc v)
      second = rw add-one at (b.some v refl).is

      module _ {m : Option ℕ} (c : NextMember ws n i (v + 1) m) {o : Bool} (l : is_some m ≡ not o) where
        pub a_third : o ≡ false → Keyed d x ws n i false
        a_third h = go m refl
          where
            go : (y : Option ℕ) → m ≡ y → Keyed d x ws n i false
            go (Some j) e = record { is = rw (first, second, rw add-one at (c.some j e).is) }
            go None e = let z : ◌≡◌ {A = Bool} false true = rw (e, h) at l in let w : ◌≡◌ {A = ℕ} 0 1 = cc in absurd (omega arith)

        pub a_pair : {r : Bool} → o ≡ true → Basic d x ws k r → Keyed d x ws n i r
        a_pair {r} h w = go m refl
          where
            go : (y : Option ℕ) → m ≡ y → Keyed d x ws n i r
            go None f = record { is = rw (first, second, rw add-one at (c.none f)) w.is }
            go (Some j) f = let z : ◌≡◌ {A = Bool} true false = rw (f, h) at l in let y : ◌≡◌ {A = ℕ} 0 1 = cc in absurd (omega arith)

-- where a member is, and the next search begins
pub member_inside : {ws : List ℕ} {n i from r : ℕ} → NextMember ws n i from (Some r) → r < n
member_inside {r = r} a = (a.some r refl).inside

pub row_after : {ws : List ℕ} {n i from r : ℕ} → NextMember ws n i from (Some r) → i < r + 1
row_after {r = r} a = omega (arith, (a.some r refl).onward)

pub ruleset keys = (no_key, no_value, a_third, a_pair, member_inside, row_after, rules)

module _ (d x : List ℕ) {ws : List ℕ} {n i k : ℕ} (a : Word ws i 0 k) where
  module _ (l : i < n) (o : DocumentOrder ws n) where
    pub counts_struct : {m : Option ℕ} {r : Bool} → k ≡ kinds.struct → NextMember ws n i (i + 1) m → r ≡ is_some m → Counted d x ws n i r
    unfolding counted
    counts_struct {m} {r} e f h = record { is = h ∙ rw (members_after ws n i l o, ← word_in a, e) (go m refl) }
      where
        go : (y : Option ℕ) → m ≡ y → is_some m ≡ any_member (members_from ws n i (suc i))
        go (Some j) z = rw (z, rw add-one at (f.some j z).is)
        go None z = rw (z, rw add-one at (f.none z))

    pub counts_mapping : {r : Bool} → k ≡ kinds.mapping → Keyed d x ws n i r → Counted d x ws n i r
    unfolding counted
    counts_mapping e f = record { is = f.is ∙ rw (members_after ws n i l o, ← word_in a, e) }

  pub counts_none : (k ≡ kinds.struct → ⊥) → (k ≡ kinds.mapping → ⊥) → Counted d x ws n i true
  unfolding counted
  counts_none e f = record { is = rw (← word_in a, ne_eqb k kinds.struct e, ne_eqb k kinds.mapping f) }

pub ruleset counts = (counts_struct, counts_mapping, counts_none, rules)
