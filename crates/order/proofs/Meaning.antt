-- What the test for a use says, in words of rows.
use Prim.Native.Nat.{ℕ, zero, suc, ◌+◌, ◌≤◌}
use mathlib.Core.Path.{◌≡◌, refl, ap, ◌∙◌}
use mathlib.Core.Logic.{◌⊎◌, inl, inr}
use mathlib.Core.List.{List, [], ◌∷◌, ◌++◌}
use mathlib.Core.Option.{Option, none, some}
use mathlib.Core.Bool.{Bool, true, false, ◌&&◌}
use borrow.Author.Tests.{eqb-true, eq-eqb}
use native.Mathlib.Omega.{arith}
use lib.Dec.{eqb}
use Rattle.slices.specs.Bytes.{if, bytes, same}
use Rattle.slices.proofs.Runs.{and_both, same_equal, same_self}
use Rattle.document.specs.Kinds as kinds
use Rattle.document.specs.Elements.{among}
use Rattle.items.specs.Content.{Row, present}
use Rattle.order.specs.Types.{member_in, defines, definitions_from, definitions, name_at, first_named, counts, bears, typed, any_row, uses}
use Rattle.order.specs.Statement.{row_at, Uses, UsesMeans}
use Rattle.order.proofs.Lists.{clash, or_else, among_cases}
use Rattle.order.proofs.Tables.{from_below, named_listed}
use Rattle.order.proofs.Lookups.{named_row_is, row_is, found_name, bears_name, bears_array}

-- ---- some row of a table

any_there : (p : Row → Bool) (t : List Row) → any_row p t ≡ true → (n : ℕ) × (m : Row) × (row_at t n ≡ some m) × (p m ≡ true)
any_there p [] e = clash e refl
any_there p (r ∷ rs) e = or_else (p r) (any_row p rs) e (λ q. (0, r, refl, q)) (λ q. let h = any_there p rs q in (suc h.0, h.1, h.2, h.3))

there_any : (p : Row → Bool) (t : List Row) (n : ℕ) (m : Row) → row_at t n ≡ some m → p m ≡ true → any_row p t ≡ true
there_any p [] n m e q = let z : ◌≡◌ {A = ℕ} 0 1 = cc in absurd (omega arith)
there_any p (r ∷ rs) zero m e q = let i : r ≡ m = cc in rw (i, q)
there_any p (r ∷ rs) (suc n) m e q = go (p r) (there_any p rs n m e q)
  where
    go : (b : Bool) → any_row p rs ≡ true → if b true (any_row p rs) ≡ true
    go true h = refl
    go false h = h

-- ---- the first row of a name

-- a definition of a name: looking it up finds that row or one before it
named_most : (s : List ℕ) (i : ℕ) (t : List Row) (d : ℕ) → among (i + d) (definitions_from i t) ≡ true → name_at t d ≡ s → (j : ℕ) × (first_named s i t ≡ some j) × (j ≤ i + d)
named_most s i [] d m n = clash m refl
named_most s i (r ∷ rs) zero m n = go (defines r) m
  where
    go : (b : Bool) → among (i + 0) (if b (i ∷ definitions_from (suc i) rs) (definitions_from (suc i) rs)) ≡ true → (j : ℕ) × (if (b && same s (present r.name)) (some i) (first_named s (suc i) rs) ≡ some j) × (j ≤ i + 0)
    go true m = let e : same s (present r.name) ≡ true = rw n (same_self s) in (i, rw e, omega arith)
    go false m = absurd (omega (arith, from_below (suc i) rs (i + 0) m))
named_most s i (r ∷ rs) (suc d) m n = go (defines r) (same s (present r.name)) m (λ k. named_most s (suc i) rs d k n)
  where
    shifted : i + suc d ≡ suc i + d
    shifted = omega arith

    go : (b c : Bool) → among (i + suc d) (if b (i ∷ definitions_from (suc i) rs) (definitions_from (suc i) rs)) ≡ true → (among (suc i + d) (definitions_from (suc i) rs) ≡ true → (j : ℕ) × (first_named s (suc i) rs ≡ some j) × (j ≤ suc i + d)) → (j : ℕ) × (if (b && c) (some i) (first_named s (suc i) rs) ≡ some j) × (j ≤ i + suc d)
    go true true m h = (i, refl, omega arith)
    go true false m h =
        let l : among (i + suc d) (definitions_from (suc i) rs) ≡ true = among_cases (i + suc d) i (definitions_from (suc i) rs) m (λ e. absurd (omega arith)) (λ k. k) in
        let q = h (rw shifted at l) in
        (q.0, q.1, omega (arith, q.2))
    go false true m h = let q = h (rw shifted at m) in (q.0, q.1, omega (arith, q.2))
    go false false m h = let q = h (rw shifted at m) in (q.0, q.1, omega (arith, q.2))

found_before : (t : List Row) (s : List ℕ) (k : ℕ) → among k (definitions t) ≡ true → name_at t k ≡ s → (j : ℕ) × (first_named s 0 t ≡ some j) × (j ≤ k)
found_before t s k m n =
    let z : k ≡ 0 + k = omega arith in
    let q = named_most s 0 t k (rw z at m) n in
    (q.0, q.1, omega (arith, q.2))

-- ---- a use

module _ (t : List Row) (i j : ℕ) where
  member_of : (m : Row) → (member_in i m && typed (λ tp. bears tp (name_at t j)) m.tp) ≡ true → counts t j ≡ true → (n : ℕ) → row_at t n ≡ some m → Uses t i j
  member_of m e c n s = go m.tp refl k.1
    where
      k : (member_in i m ≡ true) × (typed (λ tp. bears tp (name_at t j)) m.tp ≡ true)
      k = and_both (member_in i m) (typed (λ tp. bears tp (name_at t j)) m.tp) e

      q : (eqb m.kind kinds.member ≡ true) × (eqb m.parent (suc i) ≡ true)
      q = and_both (eqb m.kind kinds.member) (eqb m.parent (suc i)) k.0

      here : first_named (name_at t j) 0 t ≡ some j
      here = named_row_is j (first_named (name_at t j) 0 t) c

      go : (o : Option (List ℕ)) → m.tp ≡ o → typed (λ tp. bears tp (name_at t j)) o ≡ true → Uses t i j
      go none o e = clash e refl
      go (some tp) o e = record {
        at = n;
        member = m;
        stands = s;
        kind = eqb-true m.kind kinds.member q.0;
        parent = eqb-true m.parent (suc i) q.1;
        tp = tp;
        typed = o;
        named = or_else (same tp (name_at t j)) (same tp (name_at t j ++ bytes "[]")) e (λ f. inl (same_equal tp (name_at t j) f)) (λ f. inr (same_equal tp (name_at t j ++ bytes "[]") f));
        definition = named_listed t (name_at t j) j c;
        first = λ l d f. let p = found_before t (name_at t j) l d f in let r : p.0 ≡ j = cc (p.1, here) in omega (arith, r, p.2);
      }

  uses_means : uses t i j ≡ true → Uses t i j
  unfolding uses
  uses_means e = go (counts t j) refl e
    where
      go : (c : Bool) → counts t j ≡ c → if c (any_row (λ m. member_in i m && typed (λ tp. bears tp (name_at t j)) m.tp) t) false ≡ true → Uses t i j
      go true c e =
          let h = any_there (λ m. member_in i m && typed (λ tp. bears tp (name_at t j)) m.tp) t e in
          member_of h.1 h.3 c h.0 h.2
      go false c e = clash e refl

  bears_either : (tp : List ℕ) → (tp ≡ name_at t j) ⊎ (tp ≡ name_at t j ++ bytes "[]") → bears tp (name_at t j) ≡ true
  bears_either tp (inl e) = bears_name t j tp (name_at t j) e
  bears_either tp (inr e) = bears_array t j tp (name_at t j) e

  means_uses : Uses t i j → uses t i j ≡ true
  unfolding uses
  means_uses u = rw (c, there_any (λ m. member_in i m && typed (λ tp. bears tp (name_at t j)) m.tp) t u.at u.member u.stands m)
    where
      p : (k : ℕ) × (first_named (name_at t j) 0 t ≡ some k) × (k ≤ j)
      p = found_before t (name_at t j) j u.definition refl

      k_listed : among p.0 (definitions t) ≡ true
      k_listed = named_listed t (name_at t j) p.0 (row_is p.0 (first_named (name_at t j) 0 t) p.1)

      k_is : p.0 ≡ j
      k_is = omega (arith, p.2, u.first p.0 k_listed (found_name t (name_at t j) p.0 p.1))

      c : counts t j ≡ true
      c = row_is j (first_named (name_at t j) 0 t) (p.1 ∙ ap some k_is)

      m : (member_in i u.member && typed (λ tp. bears tp (name_at t j)) u.member.tp) ≡ true
      m = rw (eq-eqb u.member.kind kinds.member u.kind, eq-eqb u.member.parent (suc i) u.parent, u.typed) (bears_either u.tp u.named)

pub uses_mean : UsesMeans
uses_mean t i j = (uses_means t i j, means_uses t i j)
