-- Looking names up finds the rows that are used.
use Prim.Native.Nat.{ℕ, suc, ◌+◌, ◌-◌}
use mathlib.Core.Path.{◌≡◌, refl, sym, ap, ◌∙◌}
use mathlib.Core.List.{List, [], ◌∷◌, ◌++◌}
use mathlib.Core.Option.{Option, none, some}
use mathlib.Core.Bool.{Bool, true, false, not, ◌&&◌}
use borrow.Author.Tests.{eqb-true, eq-eqb}
use native.Mathlib.Omega.{arith}
use lib.ListN.{length, take, drop, length-append, take-append-drop}
use lib.Seq.{take-append_seam, drop-append_seam}
use Rattle.slices.specs.Bytes.{if, bytes, same, empty}
use Rattle.slices.proofs.Runs.{if_false, same_equal, same_self}
use Rattle.document.specs.Elements.{among}
use Rattle.document.proofs.Tests.{among_append}
use Rattle.items.specs.Content.{Row, present}
use Rattle.order.specs.Types.{member_in, defines, name_at, first_named, is_row, counts, bears, typed, any_row, uses, defined}
use Rattle.order.specs.Lookup.{of_array, element, listed, referred, referred_by, targets_in, targets}
use Rattle.order.proofs.Lists.{clash, or_else, first_true, second_true, among_here, among_cases}

-- ---- tests and texts

pub alike : (a b : Bool) → (a ≡ true → b ≡ true) → (b ≡ true → a ≡ true) → a ≡ b
alike true b f g = sym (f refl)
alike false true f g = g refl
alike false false f g = refl

-- an array's type ends in `[]`, and before that is the name
array_length : (s : List ℕ) → length (s ++ bytes "[]") - 2 ≡ length s
array_length s = rw (length-append s (bytes "[]")) (omega arith)

array_is : (s : List ℕ) → of_array (s ++ bytes "[]") ≡ true
array_is s = rw (array_length s, drop-append_seam s (bytes "[]"))

array_of : (s : List ℕ) → element (s ++ bytes "[]") ≡ s
array_of s = rw (array_length s, take-append_seam s (bytes "[]"))

array_whole : (tp : List ℕ) → of_array tp ≡ true → tp ≡ element tp ++ bytes "[]"
array_whole tp e =
    sym (take-append-drop (length tp - 2) tp)
    ∙ ap (λ (r : List ℕ). take (length tp - 2) tp ++ r) (same_equal (drop (length tp - 2) tp) (bytes "[]") e)

-- ---- the first row of a name

pub named_row_is : (j : ℕ) (o : Option ℕ) → is_row j o ≡ true → o ≡ some j
named_row_is j none e = clash e refl
named_row_is j (some i) e = ap some (eqb-true i j e)

pub row_is : (j : ℕ) (o : Option ℕ) → o ≡ some j → is_row j o ≡ true
row_is j o e = rw e (eq-eqb j j refl)

-- row i + d of a table whose rows from row i on are these
named_name : (s : List ℕ) (i : ℕ) (t : List Row) (j : ℕ) → first_named s i t ≡ some j → (d : ℕ) × (j ≡ i + d) × (name_at t d ≡ s)
named_name s i [] j e = let z : ◌≡◌ {A = ℕ} 0 1 = cc in absurd (omega arith)
named_name s i (r ∷ rs) j e = go (defines r) (same s (present r.name)) refl e (named_name s (suc i) rs j)
  where
    go : (d n : Bool) → same s (present r.name) ≡ n → if (d && n) (some i) (first_named s (suc i) rs) ≡ some j → (first_named s (suc i) rs ≡ some j → (d : ℕ) × (j ≡ suc i + d) × (name_at rs d ≡ s)) → (d : ℕ) × (j ≡ i + d) × (name_at (r ∷ rs) d ≡ s)
    go true true n e h = let p : i ≡ j = cc in (0, omega arith, sym (same_equal s (present r.name) n))
    go true false n e h = let q = h e in (suc q.0, omega (arith, q.1), q.2)
    go false true n e h = let q = h e in (suc q.0, omega (arith, q.1), q.2)
    go false false n e h = let q = h e in (suc q.0, omega (arith, q.1), q.2)

pub found_name : (t : List Row) (s : List ℕ) (j : ℕ) → first_named s 0 t ≡ some j → name_at t j ≡ s
found_name t s j e =
    let q = named_name s 0 t j e in
    let p : j ≡ q.0 = omega (arith, q.1) in
    rw p q.2

-- ---- what a tp type refers to

pub listed_is : (j : ℕ) (o : Option ℕ) → among j (listed o) ≡ true → o ≡ some j
listed_is j none e = clash e refl
listed_is j (some i) e = among_cases j i [] e (λ p. ap some (sym p)) (λ n. clash n refl)

pub is_listed : (j : ℕ) (o : Option ℕ) → o ≡ some j → among j (listed o) ≡ true
is_listed j o e = rw e (among_here j [])

module _ (t : List Row) (j : ℕ) where
  -- a row found under a name counts, and has that name
  found_counts : (s : List ℕ) → first_named s 0 t ≡ some j → counts t j ≡ true
  found_counts s e = rw (found_name t s j e) (row_is j (first_named s 0 t) e)

  pub bears_name : (tp s : List ℕ) → tp ≡ s → bears tp s ≡ true
  bears_name tp s e = first_true (same tp s) (same tp (s ++ bytes "[]")) (rw e (same_self s))

  pub bears_array : (tp s : List ℕ) → tp ≡ s ++ bytes "[]" → bears tp s ≡ true
  bears_array tp s e = second_true (same tp s) (same tp (s ++ bytes "[]")) (rw e (same_self (s ++ bytes "[]")))

  kept : (c b : Bool) → c ≡ true → b ≡ true → if c b false ≡ true
  kept c b e f = rw (e, f)

  referred_used : (tp : List ℕ) → among j (referred t tp) ≡ true → if (counts t j) (bears tp (name_at t j)) false ≡ true
  unfolding referred
  referred_used tp e =
      or_else (among j (listed (first_named tp 0 t))) (among j (if (of_array tp) (listed (first_named (element tp) 0 t)) []))
      (sym (among_append j (listed (first_named tp 0 t)) (if (of_array tp) (listed (first_named (element tp) 0 t)) [])) ∙ e)
      (λ m. let f = listed_is j (first_named tp 0 t) m in
      kept (counts t j) (bears tp (name_at t j)) (found_counts tp f) (bears_name tp (name_at t j) (sym (found_name t tp j f))))
      (λ m. go (of_array tp) refl m)
    where
      go : (b : Bool) → of_array tp ≡ b → among j (if b (listed (first_named (element tp) 0 t)) []) ≡ true → if (counts t j) (bears tp (name_at t j)) false ≡ true
      go true b m =
          let f = listed_is j (first_named (element tp) 0 t) m in
          let n : element tp ≡ name_at t j = sym (found_name t (element tp) j f) in
          kept (counts t j) (bears tp (name_at t j)) (found_counts (element tp) f)
          (bears_array tp (name_at t j) (array_whole tp b ∙ ap (λ (r : List ℕ). r ++ bytes "[]") n))
      go false b m = clash m refl

  used_referred : (tp : List ℕ) → if (counts t j) (bears tp (name_at t j)) false ≡ true → among j (referred t tp) ≡ true
  unfolding referred
  used_referred tp e = go (counts t j) refl e
    where
      first : List ℕ
      first = listed (first_named tp 0 t)

      second : List ℕ
      second = if (of_array tp) (listed (first_named (element tp) 0 t)) []

      go : (c : Bool) → counts t j ≡ c → if c (bears tp (name_at t j)) false ≡ true → among j (first ++ second) ≡ true
      go true c e =
          let f = named_row_is j (first_named (name_at t j) 0 t) c in
          among_append j first second
          ∙ or_else (same tp (name_at t j)) (same tp (name_at t j ++ bytes "[]")) e
          (λ m. first_true (among j first) (among j second) (rw (same_equal tp (name_at t j) m) (is_listed j (first_named (name_at t j) 0 t) f)))
          (λ m. second_true (among j first) (among j second)
          (let q : tp ≡ name_at t j ++ bytes "[]" = same_equal tp (name_at t j ++ bytes "[]") m in
          rw (q, array_is (name_at t j), array_of (name_at t j)) (is_listed j (first_named (name_at t j) 0 t) f)))
      go false c e = clash e refl

-- ---- what a row uses

module _ (t : List Row) (i j : ℕ) where
  member_uses : (tp : Option (List ℕ)) → if (counts t j) (typed (λ tp. bears tp (name_at t j)) tp) false ≡ among j (referred_by t tp)
  member_uses none = if_false (counts t j)
  member_uses (some tp) = alike (if (counts t j) (bears tp (name_at t j)) false) (among j (referred t tp)) (used_referred t j tp) (referred_used t j tp)

  -- a member uses row j, or one of the others does
  spread : (c b a : Bool) → if c (if b true a) false ≡ if (if c b false) true (if c a false)
  spread true b a = refl
  spread false b a = refl

  members_use : (ms : List Row) → if (counts t j) (any_row (λ m. member_in i m && typed (λ tp. bears tp (name_at t j)) m.tp) ms) false ≡ among j (targets_in t i ms)
  members_use [] = if_false (counts t j)
  members_use (m ∷ ms) = go (member_in i m) (members_use ms)
    where
      others : Bool
      others = any_row (λ m. member_in i m && typed (λ tp. bears tp (name_at t j)) m.tp) ms

      this : Bool
      this = typed (λ tp. bears tp (name_at t j)) m.tp

      go : (c : Bool) → if (counts t j) others false ≡ among j (targets_in t i ms) → if (counts t j) (if (c && this) true others) false ≡ among j (if c (referred_by t m.tp ++ targets_in t i ms) (targets_in t i ms))
      go true h =
          spread (counts t j) this others
          ∙ rw (member_uses m.tp, h) (sym (among_append j (referred_by t m.tp) (targets_in t i ms)))
      go false h = h

  pub uses_targets : uses t i j ≡ among j (targets t i)
  unfolding uses targets
  uses_targets = members_use t

-- ---- names that no row has

-- a row defines a name exactly when looking it up finds one
named_found : (s : List ℕ) (i : ℕ) (rs : List Row) → any_row (λ r. defines r && same s (present r.name)) rs ≡ not (empty (listed (first_named s i rs)))
named_found s i [] = refl
named_found s i (r ∷ rs) = go (defines r && same s (present r.name)) (named_found s (suc i) rs)
  where
    go : (b : Bool) → any_row (λ r. defines r && same s (present r.name)) rs ≡ not (empty (listed (first_named s (suc i) rs))) → if b true (any_row (λ r. defines r && same s (present r.name)) rs) ≡ not (empty (listed (if b (some i) (first_named s (suc i) rs))))
    go true h = refl
    go false h = h

array_same : (tp s : List ℕ) → same tp (s ++ bytes "[]") ≡ if (of_array tp) (same (element tp) s) false
array_same tp s = alike (same tp (s ++ bytes "[]")) (if (of_array tp) (same (element tp) s) false) there back
  where
    there : same tp (s ++ bytes "[]") ≡ true → if (of_array tp) (same (element tp) s) false ≡ true
    there e =
        let q : tp ≡ s ++ bytes "[]" = same_equal tp (s ++ bytes "[]") e in
        rw (q, array_is s, array_of s) (same_self s)

    go : (b : Bool) → of_array tp ≡ b → if b (same (element tp) s) false ≡ true → same tp (s ++ bytes "[]") ≡ true
    go true b e =
        let q : tp ≡ s ++ bytes "[]" = array_whole tp b ∙ ap (λ (r : List ℕ). r ++ bytes "[]") (same_equal (element tp) s e) in
        rw q (same_self (s ++ bytes "[]"))
    go false b e = clash e refl

    back : if (of_array tp) (same (element tp) s) false ≡ true → same tp (s ++ bytes "[]") ≡ true
    back e = go (of_array tp) refl e

sorted : (d a o e x y : Bool) → if (d && if a true (if o e false)) true (if x true (if o y false)) ≡ if (if (d && a) true x) true (if o (if (d && e) true y) false)
sorted true true o e x y = refl
sorted true false true true true y = refl
sorted true false true true false y = refl
sorted true false true false true y = refl
sorted true false true false false y = refl
sorted true false false e true y = refl
sorted true false false e false y = refl
sorted false a true e x y = refl
sorted false a false e x y = refl

defined_either : (tp : List ℕ) (rs : List Row) → any_row (λ r. defines r && bears tp (present r.name)) rs ≡ if (any_row (λ r. defines r && same tp (present r.name)) rs) true (if (of_array tp) (any_row (λ r. defines r && same (element tp) (present r.name)) rs) false)
defined_either tp [] = go (of_array tp)
  where
    go : (b : Bool) → false ≡ if false true (if b false false)
    go true = refl
    go false = refl
defined_either tp (r ∷ rs) =
    rw (array_same tp (present r.name), defined_either tp rs)
    (sorted (defines r) (same tp (present r.name)) (of_array tp) (same (element tp) (present r.name))
    (any_row (λ r. defines r && same tp (present r.name)) rs) (any_row (λ r. defines r && same (element tp) (present r.name)) rs))

empty_append : (a b : List ℕ) → not (empty (a ++ b)) ≡ if (not (empty a)) true (not (empty b))
empty_append [] b = refl
empty_append (x ∷ a) b = refl

-- a tp type bears a name of some row exactly when it refers to a row
pub defined_referred : (t : List Row) (tp : List ℕ) → defined t tp ≡ not (empty (referred t tp))
unfolding referred
defined_referred t tp =
    defined_either tp t
    ∙ rw (named_found tp 0 t, named_found (element tp) 0 t) (go (of_array tp))
    ∙ sym (empty_append (listed (first_named tp 0 t)) (if (of_array tp) (listed (first_named (element tp) 0 t)) []))
  where
    go : (b : Bool) → if (not (empty (listed (first_named tp 0 t)))) true (if b (not (empty (listed (first_named (element tp) 0 t)))) false) ≡ if (not (empty (listed (first_named tp 0 t)))) true (not (empty (if b (listed (first_named (element tp) 0 t)) [])))
    go true = refl
    go false = refl
