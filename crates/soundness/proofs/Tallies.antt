-- Members counted by parent.
use Prim.Native.Nat.{ℕ, zero, suc, ◌+◌, ◌*◌, ◌-◌, ◌≤◌, ◌<◌}
use mathlib.Core.Path.{◌≡◌, refl, sym, ap, ◌∙◌}
use mathlib.Core.List.{List, [], ◌∷◌, ◌++◌, append-nil}
use mathlib.Core.Bool.{Bool, true, false, not, and-false}
use borrow.Author.Rules.{rules}
use borrow.Author.Tests.{ne_eqb, eqb-true, eqb-false}
use native.Mathlib.Numerals.{add-one}
use native.Mathlib.Omega.{arith}
use lib.Dec.{eqb}
use lib.ListN.{length, drop, get_or, set, length-set, replicate, length-replicate}
use lib.Seq.{get_or-set_same, get_or-set_other, drop-drop}
use Rattle.std.proofs.lemmas.List.{get_or-replicate}
use Rattle.slices.specs.Bytes.{if}
use Rattle.names.specs.Signature.{basic_signature}
use Rattle.tables.specs.Triple.{shown}
use Rattle.document.specs.Kinds as kinds
use Rattle.items.specs.Words.{RowWords, Word, row_of, rows_of, is_child}
use Rattle.items.specs.Sound.{members_of, any_member, keyed, counted}
use Rattle.items.proofs.Words.{word_in}
use Rattle.soundness.specs.Outcome.{tally_of, added, is_empty, is_pair, Basic, More, Tallied, ByTally, Counted}
use Rattle.soundness.specs.declared.tally.Tally.{Tally}
use Rattle.soundness.specs.declared.tally.Tally.TheVariants.{Empty, Key, Other, Pair, Many}

-- ---- one member more

-- rows, and one more
rows_more : (k : ℕ) (ws : List ℕ) → rows_of (suc k) ws ≡ rows_of k ws ++ row_of (drop (k * 16) ws) ∷ []
rows_more zero ws = refl
rows_more (suc k) ws =
    let e : 16 + k * 16 ≡ suc k * 16 = omega arith in
    ap (◌∷◌ (row_of ws)) (rows_more k (drop 16 ws) ∙ rw (drop-drop (k * 16) 16 ws, e))

members_append : (p : ℕ) (a b : List RowWords) → members_of p (a ++ b) ≡ members_of p a ++ members_of p b
members_append p [] b = refl
members_append p (r ∷ a) b = go (is_child kinds.member p r.kind r.parent) (members_append p a b)
  where
    go : (t : Bool) → members_of p (a ++ b) ≡ members_of p a ++ members_of p b → if t (r ∷ members_of p (a ++ b)) (members_of p (a ++ b)) ≡ if t (r ∷ members_of p a) (members_of p a) ++ members_of p b
    go true e = ap (◌∷◌ r) e
    go false e = e

module _ (d x : List ℕ) where
  tally_more : (ms : List RowWords) (m : RowWords) → tally_of d x (ms ++ m ∷ []) ≡ added (basic_signature (shown d x m.value)) (tally_of d x ms)
  tally_more [] m = refl
  tally_more (k ∷ []) m = go (basic_signature (shown d x k.value))
    where
      go : (b : Bool) → if b Pair Many ≡ added (basic_signature (shown d x m.value)) (if b Key Other)
      go true = refl
      go false = refl
  tally_more (k ∷ v ∷ []) m = go (basic_signature (shown d x k.value))
    where
      go : (b : Bool) → Many ≡ added (basic_signature (shown d x m.value)) (if b Pair Many)
      go true = refl
      go false = refl
  tally_more (k ∷ v ∷ w ∷ ms) m = refl

  module _ {ws : List ℕ} {k : ℕ} {t : Tally} where
    pub more_first : {b : Bool} → t ≡ Empty → Basic d x ws k b → b ≡ true → More d x ws k t Key
    more_first z q h = record { is = rw (z, sym q.is ∙ h) }

    pub more_other : {b : Bool} → t ≡ Empty → Basic d x ws k b → b ≡ false → More d x ws k t Other
    more_other z q h = record { is = rw (z, sym q.is ∙ h) }

    pub more_second : t ≡ Key → More d x ws k t Pair
    more_second z = record { is = rw z }

  pub more_many : {ws : List ℕ} {k : ℕ} (t : Tally) → (t ≡ Empty → ⊥) → (t ≡ Key → ⊥) → More d x ws k t Many
  more_many Empty z y = absurd (z refl)
  more_many Key z y = absurd (y refl)
  more_many Other z y = record { is = refl }
  more_many Pair z y = record { is = refl }
  more_many Many z y = record { is = refl }

pub ruleset mores = (more_first, more_other, more_second, more_many, rules)

-- ---- one row more

module _ {d x ws : List ℕ} {n k : ℕ} {ts : List Tally} (g : Tallied d x ws n k ts) where
  -- whether row k is a member of row i, by its words
  abbrev child : ℕ → Bool
  child i = is_child kinds.member (suc i) (row_of (drop (k * 16) ws)).kind (row_of (drop (k * 16) ws)).parent

  members_more : (i : ℕ) → members_of (suc i) (rows_of (suc k) ws) ≡ members_of (suc i) (rows_of k ws) ++ if (child i) (row_of (drop (k * 16) ws) ∷ []) []
  members_more i =
      ap (members_of (suc i)) (rows_more k ws) ∙ members_append (suc i) (rows_of k ws) (row_of (drop (k * 16) ws) ∷ [])

  kept : (i : ℕ) → i < n → child i ≡ false → get_or ts i Empty ≡ tally_of d x (members_of (suc i) (rows_of (suc k) ws))
  kept i l e =
      let q : members_of (suc i) (rows_of (suc k) ws) ≡ members_of (suc i) (rows_of k ws) = members_more i ∙ rw (e, append-nil) in
      g.is i l ∙ sym (ap (tally_of d x) q)

  skips : ((i : ℕ) → i < n → child i ≡ false) → Tallied d x ws n (k + 1) ts
  skips h = record { room = g.room; is = λ i l. rw add-one (kept i l (h i l)) }

  pub count_room : {p : ℕ} → (p ≡ 0 → ⊥) → p ≤ n → p - 1 < length ts
  count_room e l = omega (arith, g.room)

  module _ {a : ℕ} (w : Word ws k 0 a) where
    pub count_kind : (a ≡ kinds.member → ⊥) → Tallied d x ws n (k + 1) ts
    count_kind e = skips (λ i l. rw (← word_in w, ne_eqb a kinds.member e))

    module _ {p : ℕ} (o : Word ws k 1 p) where
      other : (i : ℕ) → (p ≡ suc i → ⊥) → child i ≡ false
      other i e = rw (← word_in o, ne_eqb p (suc i) e, and-false)

      pub count_root : p ≡ 0 → Tallied d x ws n (k + 1) ts
      count_root e = skips (λ i l. other i (λ z. omega arith))

      pub count_past : n < p → Tallied d x ws n (k + 1) ts
      count_past e = skips (λ i l. other i (λ z. omega arith))

      pub count_one : {r : Tally} → a ≡ kinds.member → (p ≡ 0 → ⊥) → p ≤ n → More d x ws k (get_or ts (p - 1) Empty) r → Tallied d x ws n (k + 1) (set ts (p - 1) r)
      count_one {r} e f l m = record {
        room = rw length-set g.room;
        is = λ i j. rw add-one (go i j (eqb p (suc i)) refl);
      }
        where
          go : (i : ℕ) → i < n → (b : Bool) → eqb p (suc i) ≡ b → get_or (set ts (p - 1) r) i Empty ≡ tally_of d x (members_of (suc i) (rows_of (suc k) ws))
          go i j true q =
              let z : p - 1 ≡ i = omega (arith, eqb-true p (suc i) q) in
              let c : child i ≡ true = rw (← word_in w, e, ← word_in o, q) in
              let h = rw (z, g.is i j) at m.is in
              let y : members_of (suc i) (rows_of (suc k) ws) ≡ members_of (suc i) (rows_of k ws) ++ row_of (drop (k * 16) ws) ∷ [] = members_more i ∙ rw c in
              rw (z, get_or-set_same ts i r Empty (omega (arith, g.room)))
              (h ∙ sym (ap (tally_of d x) y ∙ tally_more d x (members_of (suc i) (rows_of k ws)) (row_of (drop (k * 16) ws))))
          go i j false q =
              get_or-set_other ts (p - 1) i r Empty (λ z. eqb-false p (suc i) q (omega arith))
              ∙ kept i j (other i (eqb-false p (suc i) q))

pub ruleset tallying = (count_kind, count_root, count_past, count_room, count_one, rules)

-- a loop over n rows that stands at row k
pub tally_ends : {d x ws : List ℕ} {ts : List Tally} {n k : ℕ} → Tallied d x ws n k ts → k ≤ n → n ≤ k → Tallied d x ws n n ts
tally_ends {n = n} {k} g a b = let e : k ≡ n = omega arith in rw e at g

pub ruleset tallied = (tally_ends, rules)

-- ---- no member yet

pub tally_begins : (d x ws : List ℕ) {n m : ℕ} → n ≤ m → Tallied d x ws n 0 (replicate m Empty)
tally_begins d x ws {m = m} l = record {
  room = omega (arith, length-replicate {A = Tally} m Empty);
  is = λ i h. get_or-replicate m i Empty Empty (omega arith);
}

-- ---- the members that a kind needs

module _ {ws : List ℕ} {i k : ℕ} (t : Tally) (a : Word ws i 0 k) where
  pub by_struct : k ≡ kinds.struct → ByTally ws i t (not (is_empty t))
  by_struct e = record { is = rw (← word_in a, e) }

  pub by_mapping : k ≡ kinds.mapping → ByTally ws i t (is_pair t)
  by_mapping e = record { is = rw (← word_in a, e) }

  pub by_none : (k ≡ kinds.struct → ⊥) → (k ≡ kinds.mapping → ⊥) → ByTally ws i t true
  by_none e f = record { is = rw (← word_in a, ne_eqb k kinds.struct e, ne_eqb k kinds.mapping f) }

pub ruleset by_tally = (by_struct, by_mapping, by_none, rules)

module _ (d x : List ℕ) where
  tally_any : (ms : List RowWords) → not (is_empty (tally_of d x ms)) ≡ any_member ms
  tally_any [] = refl
  tally_any (k ∷ []) = go (basic_signature (shown d x k.value))
    where
      go : (b : Bool) → not (is_empty (if b Key Other)) ≡ true
      go true = refl
      go false = refl
  tally_any (k ∷ v ∷ []) = go (basic_signature (shown d x k.value))
    where
      go : (b : Bool) → not (is_empty (if b Pair Many)) ≡ true
      go true = refl
      go false = refl
  tally_any (k ∷ v ∷ m ∷ ms) = refl

  tally_keyed : (ms : List RowWords) → is_pair (tally_of d x ms) ≡ keyed d x ms
  tally_keyed [] = refl
  tally_keyed (k ∷ []) = go (basic_signature (shown d x k.value))
    where
      go : (b : Bool) → is_pair (if b Key Other) ≡ false
      go true = refl
      go false = refl
  tally_keyed (k ∷ v ∷ []) = go (basic_signature (shown d x k.value))
    where
      go : (b : Bool) → is_pair (if b Pair Many) ≡ b
      go true = refl
      go false = refl
  tally_keyed (k ∷ v ∷ m ∷ ms) = refl

  pub tally_counts : {ws : List ℕ} {ts : List Tally} {n i : ℕ} {t : Tally} {r : Bool} → Tallied d x ws n n ts → i < n → t ≡ get_or ts i Empty → ByTally ws i t r → Counted d x ws n i r
  unfolding counted
  tally_counts {ws} {n = n} {i} g l e b =
      let ms = members_of (suc i) (rows_of n ws) in
      record { is = b.is ∙ rw (e, g.is i l, tally_any ms, tally_keyed ms) }
