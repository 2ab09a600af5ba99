-- Laws of the two counts.
use Prim.Native.Nat.{ℕ, zero, suc, ◌+◌, ◌*◌, ◌≤◌, ◌<◌}
use mathlib.Core.Path.{◌≡◌, refl, sym, ap, ◌∙◌}
use mathlib.Core.List.{List, [], ◌∷◌, ◌++◌}
use mathlib.Core.Option.{Option, none, some}
use mathlib.Core.Bool.{Bool, true, false, not, not-not}
use borrow.Author.Rules.{rules}
use borrow.Author.Tests.{ne_eqb, not-true, not-false}
use native.Mathlib.Numerals.{add-one}
use native.Mathlib.Omega.{arith}
use lib.ListN.{length, drop}
use Rattle.std.specs.Prelude.{Option as Maybe, None, Some, is_some, filter, cond}
use Rattle.std.specs.List.{range_with_len}
use Rattle.slices.specs.Bytes.{if, empty}
use Rattle.tables.specs.Triple.{shown}
use Rattle.tables.specs.declared.Triple.{Triple}
use Rattle.document.specs.Kinds as kinds
use Rattle.items.specs.Words.{Word, TripleIs, row_of, rows_shown, absent, shown_row}
use Rattle.items.specs.Content.{Row}
use Rattle.items.proofs.Words.{word_in}
use Rattle.order.specs.Types.{defines, definitions_from, typed, defined, is_undefined, undefined_in, undefined}
use Rattle.order.specs.Lookup.{listed, referred, referred_by}
use Rattle.order.specs.Steps.{Defines, target, Target, Adds, BearsNone, IsUndefined, CountsUndefined, CountsDefinitions}
use Rattle.order.proofs.Lookups.{defined_referred}
use Rattle.order.proofs.Finding.{shown_rows_from, shown_past, finds_some, finds_none, tp_is}
use Rattle.order.proofs.Waiting.{referred_targets, row_held}

one_most : (b : Bool) → if b 1 0 ≤ 1
one_most true = omega arith
one_most false = omega arith

-- a count of the rows that pass a test, by a list of their numbers
module _ (p : Row → Bool) (f : ℕ → List Row → ℕ) (none : (k : ℕ) → f k [] ≡ 0) (more : (k : ℕ) (row : Row) (rest : List Row) → f k (row ∷ rest) ≡ if (p row) 1 0 + f (suc k) rest) (d x ws : List ℕ) (n : ℕ) where
  pub counted : (m k : ℕ) → k + m ≡ n → f k (drop k (rows_shown d x ws n)) ≡ length (filter (λ j. p (shown_row d x ws j)) (range_with_len k m))
  counted zero k h = ap (f k) (shown_past d x ws n k (omega (arith, h))) ∙ none k
  counted (suc m) k h =
      let e = ap (f k) (shown_rows_from d x ws n k (omega (arith, h))) ∙ more k (shown_row d x ws k) (drop (suc k) (rows_shown d x ws n)) in
      let g : f (suc k) (drop (suc k) (rows_shown d x ws n)) ≡ length (filter (λ j. p (shown_row d x ws j)) (range_with_len (k + 1) m)) = rw add-one (counted m (suc k) (omega (arith, h))) in
      e ∙ go (p (shown_row d x ws k)) _ g
    where
      go : (b : Bool) {a : ℕ} (ks : List ℕ) → a ≡ length ks → if b 1 0 + a ≡ length (cond b (k ∷ ks) ks)
      go true ks e = omega (arith, e)
      go false ks e = omega (arith, e)

-- ---- definitions

module _ (k : ℕ) (row : Row) (rest : List Row) where
  more_from : length (definitions_from k (row ∷ rest)) ≡ if (defines row) 1 0 + length (definitions_from (suc k) rest)
  more_from = go (defines row)
    where
      go : (b : Bool) → length (if b (k ∷ definitions_from (suc k) rest) (definitions_from (suc k) rest)) ≡ if b 1 0 + length (definitions_from (suc k) rest)
      go true = omega arith
      go false = omega arith

pub defines_is : {d x ws : List ℕ} {k : ℕ} {b : Bool} → Defines d x ws k b → b ≡ defines (shown_row d x ws k)
defines_is a = a.is

pub counted_definitions : (d x ws : List ℕ) (n : ℕ) {r : ℕ} → r ≡ length (filter (λ k. defines (shown_row d x ws k)) (range_with_len 0 n)) → CountsDefinitions (rows_shown d x ws n) r
counted_definitions d x ws n e = record {
  is = e ∙ sym (counted defines (λ k t. length (definitions_from k t)) (λ k. refl) more_from d x ws n n 0 (omega arith));
}

-- ---- members whose tp type no row defines

-- a tp type that is there bears no name exactly when it refers to no row
bears_none : (d x ws : List ℕ) (n m : ℕ) → absent (row_of (drop (m * 16) ws)).tp ≡ false → typed (λ tp. not (defined (rows_shown d x ws n) tp)) (shown_row d x ws m).tp ≡ empty (referred_by (rows_shown d x ws n) (shown_row d x ws m).tp)
bears_none d x ws n m f =
    let s = shown d x (row_of (drop (m * 16) ws)).tp in
    rw f (ap not (defined_referred (rows_shown d x ws n) s) ∙ not-not (empty (referred (rows_shown d x ws n) s)))

neither : (d x ws : List ℕ) (n m : ℕ) → absent (row_of (drop (m * 16) ws)).tp ≡ false → (o p : Option ℕ) → target (rows_shown d x ws n) false (shown_row d x ws m).tp ≡ o → target (rows_shown d x ws n) true (shown_row d x ws m).tp ≡ p → typed (λ tp. not (defined (rows_shown d x ws n) tp)) (shown_row d x ws m).tp ≡ empty (listed o ++ listed p)
neither d x ws n m f o p g h =
    bears_none d x ws n m f
    ∙ ap empty (referred_targets (rows_shown d x ws n) (shown_row d x ws m).tp)
    ∙ ap (λ (z : Option ℕ). empty (listed z ++ listed (target (rows_shown d x ws n) true (shown_row d x ws m).tp))) g
    ∙ ap (λ (z : Option ℕ). empty (listed o ++ listed z)) h

module _ {d x ws : List ℕ} {n m : ℕ} {b : Bool} {p : Triple} (t : TripleIs ws m 8 p) (f : b ≡ absent p) where
  pub bears_absent : {r : Bool} → not b ≡ false → r ≡ not b → BearsNone d x ws n m r
  bears_absent q e = record { is = e ∙ q ∙ sym (rw (tp_is t f ∙ not-false b q)) }

  module _ {v : Maybe ℕ} (q : b ≡ false) (g : Target d x ws n false m v) where
    pub bears_whole : {r : Bool} → is_some v ≡ not r → r ≡ false → BearsNone d x ws n m r
    bears_whole {r} e z = go v refl e
      where
        go : (u : Maybe ℕ) → v ≡ u → is_some u ≡ not r → BearsNone d x ws n m r
        go None h k = absurd (cc)
        go (Some i) h k = record {
          is = z ∙ sym (neither d x ws n m (tp_is t f ∙ q) (some i) (target (rows_shown d x ws n) true (shown_row d x ws m).tp) (finds_some g.finds h) refl);
        }

    pub bears_less : {w : Maybe ℕ} {r s : Bool} → is_some v ≡ not r → r ≡ true → Target d x ws n true m w → is_some w ≡ not s → BearsNone d x ws n m s
    bears_less {w} {r} {s} e z k o = go v refl w refl e o
      where
        go : (u : Maybe ℕ) → v ≡ u → (y : Maybe ℕ) → w ≡ y → is_some u ≡ not r → is_some y ≡ not s → BearsNone d x ws n m s
        go (Some i) h y j e o = absurd (cc)
        go None h None j e o = record { is = said ∙ sym (neither d x ws n m (tp_is t f ∙ q) none none (finds_none g.finds h) (finds_none k.finds j)) }
          where
            said : s ≡ true
            said = not-false s (sym o)
        go None h (Some i) j e o = record { is = not-true s (sym o) ∙ sym (neither d x ws n m (tp_is t f ∙ q) none (some i) (finds_none g.finds h) (finds_some k.finds j)) }

-- a tp type that names a row is there, and bears its name
named_there : (d x ws : List ℕ) (n m : ℕ) {i : ℕ} → target (rows_shown d x ws n) false (shown_row d x ws m).tp ≡ some i → absent (row_of (drop (m * 16) ws)).tp ≡ false
unfolding target
named_there d x ws n m {i} e = by (absent (row_of (drop (m * 16) ws)).tp) refl
  where
    by : (b : Bool) → absent (row_of (drop (m * 16) ws)).tp ≡ b → absent (row_of (drop (m * 16) ws)).tp ≡ false
    by false h = h
    by true h = let z : ◌≡◌ {A = Option ℕ} none (some i) = rw h at e in absurd (cc)

bears_found : {d x ws : List ℕ} {n m i : ℕ} {v : Maybe ℕ} → Target d x ws n false m v → v ≡ Some i → BearsNone d x ws n m false
bears_found {d} {x} {ws} {n} {m} {i} g e =
    let t = finds_some g.finds e in
    record { is = sym (neither d x ws n m (named_there d x ws n m t) (some i) (target (rows_shown d x ws n) true (shown_row d x ws m).tp) t refl) }

pub ruleset bearing = (bears_absent, bears_whole, bears_less, rules)

module _ {d x ws : List ℕ} {n m k : ℕ} (a : Word ws m 0 k) where
  pub undefined_other : (k ≡ kinds.member → ⊥) → IsUndefined d x ws n m false
  undefined_other e = record { is = rw (← word_in a, ne_eqb k kinds.member e) }

  pub undefined_member : {r : Bool} → k ≡ kinds.member → BearsNone d x ws n m r → IsUndefined d x ws n m r
  undefined_member e b = record { is = b.is ∙ rw (← word_in a, e) }

  pub undefined_found : {i : ℕ} {v : Maybe ℕ} → k ≡ kinds.member → Target d x ws n false m v → v ≡ Some i → IsUndefined d x ws n m false
  undefined_found e g h = undefined_member e (bears_found g h)

pub ruleset undefineds = (undefined_other, undefined_member, undefined_found, row_held, rules)

module _ (t : List Row) (k : ℕ) (row : Row) (rest : List Row) where
  more_missing : undefined_in t (row ∷ rest) ≡ if (is_undefined t row) 1 0 + undefined_in t rest
  more_missing = go (is_undefined t row)
    where
      go : (b : Bool) → if b (suc (undefined_in t rest)) (undefined_in t rest) ≡ if b 1 0 + undefined_in t rest
      go true = omega arith
      go false = omega arith

-- a count by a loop
pub record Missing (d x ws : List ℕ) (n k c : ℕ) : Type 0 where
  pub is : c + undefined_in (rows_shown d x ws n) (drop k (rows_shown d x ws n)) ≡ undefined (rows_shown d x ws n)
  pub most : c ≤ k

pub missing_begins : {d x ws : List ℕ} {n : ℕ} → Missing d x ws n 0 0
unfolding undefined
missing_begins = record { is = omega arith; most = omega arith }

module _ {d x ws : List ℕ} {n k c : ℕ} (g : Missing d x ws n k c) where
  pub missing_ends : n ≤ k → CountsUndefined (rows_shown d x ws n) c
  missing_ends h = record { is = omega (arith, g.is, ap (undefined_in (rows_shown d x ws n)) (shown_past d x ws n k h)) }

  pub missing_more : {b : Bool} {r : ℕ} → k < n → IsUndefined d x ws n k b → Adds c b r → Missing d x ws n (k + 1) r
  missing_more {b} {r} l a p =
      let e = ap (undefined_in (rows_shown d x ws n)) (shown_rows_from d x ws n k l) ∙ more_missing (rows_shown d x ws n) k (shown_row d x ws k) (drop (suc k) (rows_shown d x ws n)) in
      let f : ◌≡◌ {A = ℕ} (if b 1 0) (if (is_undefined (rows_shown d x ws n) (shown_row d x ws k)) 1 0) = ap (λ (z : Bool). if z 1 0) a.is in
      record { is = rw add-one (omega (arith, g.is, e, f, p.is)); most = omega (arith, g.most, p.is, one_most b) }

pub undefined_is : {d x ws : List ℕ} {n k : ℕ} {b : Bool} → IsUndefined d x ws n k b → b ≡ is_undefined (rows_shown d x ws n) (shown_row d x ws k)
undefined_is a = a.is

pub counted_undefined : (d x ws : List ℕ) (n : ℕ) {r : ℕ} → r ≡ length (filter (λ k. is_undefined (rows_shown d x ws n) (shown_row d x ws k)) (range_with_len 0 n)) → CountsUndefined (rows_shown d x ws n) r
unfolding undefined
counted_undefined d x ws n e =
    let t = rows_shown d x ws n in
    record {
      is = e ∙ sym (counted (is_undefined t) (λ k. undefined_in t) (λ k. refl) (more_missing t) d x ws n n 0 (omega arith));
    }
