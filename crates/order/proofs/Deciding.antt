-- Laws of the answer by a certificate: the first row on a circle, or the order.
use Prim.Native.Nat.{ℕ, ◌≤◌, ◌<◌}
use mathlib.Core.Path.{◌≡◌, refl, sym, ap, ◌∙◌}
use mathlib.Core.List.{List, [], ◌∷◌}
use mathlib.Core.Bool.{Bool, true, false}
use borrow.Author.Rules.{rules}
use native.Mathlib.Omega.{arith}
use lib.ListN.{length, get_or, take, length-take}
use lib.Seq.{get_or-take}
use Rattle.tables.specs.Table.{Rep}
use Rattle.items.specs.Words.{rows_shown}
use Rattle.items.specs.Content.{Row}
use Rattle.order.specs.Relation.{order, Chain}
use Rattle.order.specs.Types.{definitions, uses}
use Rattle.order.specs.Ordering.{wrong, Says}
use Rattle.std.specs.Prelude.{Result, Option, None, Some, is_some}
use Rattle.faults.specs.Fault.{fault}
use Rattle.faults.specs.declared.Fault.{Fault}
use Rattle.order.specs.declared.Ordered.{Ordered}
use Rattle.order.specs.Steps.{CountsDefinitions, Leaves, OrdersSound}
use Rattle.order.specs.Certificate.{number, run_of, Late, Members, IsCircle, IsFirst, IsNoted, IsOrder, Certain, IsCertain}
use Rattle.utf8.proofs.Sequences.{below}
use Rattle.order.proofs.Lists.{clash}
use Rattle.order.proofs.Keeping.{run_some}
use Rattle.order.proofs.Circles.{chain_listed}
use Rattle.order.proofs.Tables.{definitions_ascend, used_listed}
use Rattle.order.proofs.Waiting.{defined_below}
use Rattle.order.proofs.Theorems.{at_circle}
use Rattle.order.proofs.Answering.{leaves_order}
use Rattle.order.proofs.Certifying.{circle_past, At, places_order}

-- ---- the first row on a circle

pub first_never : {t : List Row} {p : ℕ} → IsFirst t p false
first_never = record { is = λ e. clash e refl }

-- a row on a circle is p or greater
past : {d x ws work : List ℕ} {n p u : ℕ} {r : Option ℕ} → Members d x ws n work p r → r ≡ Some u → (q : ℕ) → Chain (uses (rows_shown d x ws n)) q q → p ≤ q
past {d} {x} {ws} {work} {n} {p} {u} m e = circle_past (uses (rows_shown d x ws n)) (number n work) p (λ i j v. (m.falls u e i j v).most) (λ i j v. (m.falls u e i j v).less)

pub first-is : {d x ws work : List ℕ} {n p : ℕ} {r : Option ℕ} {c : Bool} → Members d x ws n work p r → is_some r ≡ true → IsCircle (rows_shown d x ws n) p c → IsFirst (rows_shown d x ws n) p c
first-is {d} {x} {ws} {work} {n} {p} {r} {c} m h f = go r refl h
  where
    go : (o : Option ℕ) → r ≡ o → is_some o ≡ true → IsFirst (rows_shown d x ws n) p c
    go None q h = absurd (cc)
    go (Some u) q h = record { is = λ e. record { circle = f.is e; first = past m q } }

pub ruleset firsts = (first_never, first-is, rules)

-- ---- an order, or no room for it

take_length : (l : List ℕ) → take (length l) l ≡ l
take_length [] = refl
take_length (x ∷ l) = ap (◌∷◌ x) (take_length l)

pub certain_never : {t : List Row} {out : List ℕ} {count : ℕ} → IsCertain t out count None
certain_never = record { is = λ u e. let z : ◌≡◌ {A = ℕ} 0 1 = cc in absurd (omega arith) }

-- a number that is sure
certain : {t : List Row} {out : List ℕ} {count u : ℕ} → Certain t out count u → IsCertain t out count (Some u)
certain {t} {out} {count} {u} f = record { is = λ v e. let z : u ≡ v = cc in rw z at f }

module _ {d x ws work : List ℕ} {n u : ℕ} {r : Option ℕ} (m : Members d x ws n work n r) (h : r ≡ Some u) where
  uncircled : (i : ℕ) → Chain (uses (rows_shown d x ws n)) i i → ⊥
  uncircled i f =
      omega (arith, past m h i f, defined_below d x ws n i (chain_listed (uses (rows_shown d x ws n)) (definitions (rows_shown d x ws n)) (used_listed (rows_shown d x ws n)) f))

  module _ {out : List ℕ} {c : Bool} (o : IsOrder d x ws n work out c) (e : c ≡ true) where
    certified : (k : ℕ) → k < length out → At (uses (rows_shown d x ws n)) (definitions (rows_shown d x ws n)) (number n work) (λ k. run_of n work (get_or out k 0)) out k
    certified k g =
        let p = (o.before e).is k g in
        record { listed = p.definition; numbered = p.numbered; run = p.run; ready = ready (get_or out k 0) p.noted }
      where
        ready : (r : ℕ) → IsNoted d x ws n work r (run_of n work r) true → Late (rows_shown d x ws n) n work r
        ready r q i f =
            below 0 (run_of n work r)
            (λ l. m.noted u h (omega arith) r (q.within refl l) (q.member refl l) (run_some work n r l) i f)
            (λ l. omega arith)

    order_taken : order (uses (rows_shown d x ws n)) (definitions (rows_shown d x ws n)) ≡ out
    order_taken =
        places_order (uses (rows_shown d x ws n)) (definitions (rows_shown d x ws n)) (used_listed (rows_shown d x ws n))
        (number n work) (λ k. run_of n work (get_or out k 0)) out (length out) (omega arith)
        (λ i j a v. (m.falls u h i j v).less (defined_below d x ws n i a))
        certified
        (λ r a. let s = o.stands e r a in (s.below, s.is))
        (definitions_ascend (rows_shown d x ws n))
        ∙ take_length out

  -- where the first words lent are these rows
  module _ {out : List ℕ} {count : ℕ} {c : Bool} (o : IsOrder d x ws n work (take count out) c) (e : c ≡ true) (l : count ≤ length out) where
    order_stands : Rep 1 out count (order (uses (rows_shown d x ws n)) (definitions (rows_shown d x ws n)))
    order_stands =
        let y : length (take count out) ≡ count = simp length-take (omega arith) in
        rw (order_taken o e) record {
          many = omega (arith, y);
          holds = λ k g q. sym (get_or-take count out k 0 (omega (arith, y)));
        }

module _ {d x ws work out : List ℕ} {n count u : ℕ} {r : Option ℕ} (m : Members d x ws n work n r) (h : r ≡ Some u) where
  pub certain_short : length out < count → IsCertain (rows_shown d x ws n) out count (Some u)
  certain_short l = certain record { free = uncircled m h; order = λ k. absurd (omega arith); undefined = m.count u h }

  pub certain_order : {c : Bool} → count ≤ length out → IsOrder d x ws n work (take count out) c → c ≡ true → IsCertain (rows_shown d x ws n) out count (Some u)
  certain_order l o e = certain record { free = uncircled m h; order = order_stands m h o e; undefined = m.count u h }

pub ruleset certainties = (certain_never, certain_short, certain_order, rules)

-- ---- the answer

module _ {t : List Row} {out out' : List ℕ} {c u : ℕ} {a : Option ℕ} (k : CountsDefinitions t c) (f : IsCertain t out c a) (e : a ≡ Some u) where
  pub certain_leaves : {r : Result Ordered Fault} → Leaves out c u out' r → OrdersSound t (length out) out' r
  certain_leaves h =
      let w = f.is u e in
      record { says = leaves_order t w.free k.is w.undefined w.order h }

pub ruleset certain_finish = (certain_leaves, rules)

pub circled_answer : {t : List Row} {out : List ℕ} {p room : ℕ} {b : Bool} {r : Result Ordered Fault} {x : Fault} → IsFirst t p b → b ≡ true → x ≡ fault 28 p → Says (wrong x.number x.place) room out r → OrdersSound t room out r
circled_answer {t} {p = p} {room = room} f e q s = record { says = rw ((at_circle room t p).1 (f.is e)) (rw q at s) }

pub kept_room : {t : List Row} {room room' : ℕ} {out : List ℕ} {r : Result Ordered Fault} → OrdersSound t room' out r → room' ≡ room → OrdersSound t room out r
kept_room s e = rw e at s

pub ruleset decides = (circled_answer, kept_room, rules)
