-- Laws of the answer: what is left in the words lent, and which refusal it is.
use Prim.Native.Nat.{ℕ, ◌≤◌, ◌<◌}
use mathlib.Core.Path.{◌≡◌, refl, sym, ap, subst, ◌∙◌}
use mathlib.Core.List.{List}
use mathlib.Core.Bool.{Bool}
use borrow.Author.Rules.{rules}
use borrow.Author.Tests.{lt-ltb, le-ltb}
use native.Mathlib.Nat.{mul-one}
use native.Mathlib.Omega.{arith}
use lib.ListN.{length, replicate}
use Rattle.utf8.proofs.Sequences.{below}
use Rattle.tables.specs.Table.{Rep, Wiped}
use Rattle.tables.proofs.Tables.{clear_all, clear_rest}
use Rattle.items.specs.Words.{rows_shown}
use Rattle.items.specs.Content.{Row}
use Rattle.items.proofs.Rows.{sound_claimed, sound_held}
use Rattle.soundness.specs.Outcome.{Admits}
use Rattle.soundness.proofs.Rows.{admitted, refused_as, admitted_as}
use Rattle.order.specs.Relation.{order, Chain}
use Rattle.order.specs.Types.{definitions, uses, undefined}
use Rattle.order.specs.Ordering.{wrong, types_ordered, checked, ordering, Says, OrdersTypes}
use Rattle.std.specs.Prelude.{Result, Ok, Err, Option as Maybe, None, Some}
use Rattle.faults.specs.Fault.{fault}
use Rattle.faults.specs.declared.Fault.{Fault}
use Rattle.order.specs.declared.Ordered.{Ordered}
use Rattle.order.specs.Steps.{Held, GivenOut, Clear, CircleFound, CountsUndefined, CountsDefinitions, Leaves, Finishes, OrdersSound, Answers}
use Rattle.order.proofs.Lists.{clash}
use Rattle.order.proofs.Taking.{order_orders}
use Rattle.order.proofs.Tables.{definitions_ascend, used_listed}
use Rattle.order.proofs.Theorems.{at_circle, no_circle, stops, none_on_circle}

pub refused : {t t' : List ℕ} {f : Fault} → Wiped 0 t t' → Says (wrong f.number f.place) (length t) t' (Err f)
refused {t} z = record { answer = refl; left = z.is ∙ clear_all t }

pub ruleset refusals = (refused, rules)

-- ---- all were given out

module _ {out out' : List ℕ} {c u : ℕ} where
  pub leave_short : {r : Result Ordered Fault} {f : Fault} → length out < c → f ≡ fault 18 c → Says (wrong f.number f.place) (length out) out' r → Leaves out c u out' r
  leave_short h q s = record { short = λ l. rw q at s; fits = λ l. absurd (omega arith) }

  pub leave_fits : c ≤ length out → Wiped c out out' → Leaves out c u out' (Ok (record { definitions = c; unnamed = u }))
  leave_fits h z = record {
    short = λ l. absurd (omega arith);
    fits = λ l rows s.
        let k : length rows ≡ c = s.many ∙ mul-one c in
        record { answer = rw k; left = z.is ∙ rw k (rw mul-one at (clear_rest {w = 1} (omega arith) s (rw mul-one h))) };
  }

pub ruleset leaving = (leave_short, leave_fits, rules)

-- ---- the order, where no row is on a circle

given_count : (t : List Row) {out : List ℕ} {c : ℕ} → Rep 1 out c (order (uses t) (definitions t)) → length (order (uses t) (definitions t)) ≡ c
given_count t {c = c} s = s.many ∙ mul-one c

-- no row given out is on a circle
pub given_clear : {t : List Row} {marks : List Bool} {out : List ℕ} {c : ℕ} → GivenOut t marks out c → Clear t marks
given_clear {t} g = record { none = λ k f q. clash (g.marked k f) (none_on_circle t k q) }

-- c definitions, which no circle holds back
pub leaves_order : (t : List Row) {out out' : List ℕ} {c u : ℕ} {r : Result Ordered Fault} → ((i : ℕ) → Chain (uses t) i i → ⊥) → c ≡ length (definitions t) → u ≡ undefined t → (c ≤ length out → Rep 1 out c (order (uses t) (definitions t))) → Leaves out c u out' r → Says (types_ordered (length out) t) (length out) out' r
leaves_order t {out} {out'} {c} {u} {r} free e v s f =
    rw (no_circle (length out) t free, ← e, ← v)
    (below (length out) c
    (λ l. rw (lt-ltb (length out) c l) (f.short l))
    (λ l. rw (le-ltb (length out) c l) (f.fits l (order (uses t) (definitions t)) (s l))))

pub finish_leaves : {t : List Row} {out out' : List ℕ} {c u : ℕ} {r : Result Ordered Fault} → CountsUndefined t u → Leaves out c u out' r → Finishes t out c out' r
finish_leaves {t} v f = record {
  says = λ s free.
      let o = order_orders (uses t) (definitions t) (used_listed t) free (definitions_ascend t) in
      leaves_order t free (sym (given_count t s) ∙ o.count) v.is (λ l. s) f;
}

-- 18 is the same, however many members are not defined
pub finish_short : {t : List Row} {out out' : List ℕ} {c : ℕ} {r : Result Ordered Fault} {f : Fault} → length out < c → f ≡ fault 18 c → Says (wrong f.number f.place) (length out) out' r → Finishes t out c out' r
finish_short h q s = finish_leaves (record { is = refl }) (leave_short h q s)

pub ruleset finishing = (finish_short, finish_leaves, rules)

-- ---- a circle, or none

module _ {t : List Row} {marks : List Bool} {out out' : List ℕ} {c m : ℕ} {r : Result Ordered Fault} (g : GivenOut t marks out c) (k : CountsDefinitions t m) where
  pub conclude_circle : {a : Maybe ℕ} {p : ℕ} {x : Fault} → CircleFound t a → a ≡ Some p → x ≡ fault 28 p → Says (wrong x.number x.place) (length out) out' r → OrdersSound t (length out) out' r
  conclude_circle {p = p} f e q s = record { says = rw ((at_circle (length out) t p).1 (f.some p e)) (rw q at s) }

  pub conclude_none : {a : Maybe ℕ} → CircleFound t a → a ≡ None → Finishes t out c out' r → OrdersSound t (length out) out' r
  conclude_none f e h = record { says = h.says g.stands (f.none e) }

  pub conclude_free : m ≤ c → Finishes t out c out' r → OrdersSound t (length out) out' r
  conclude_free h f = record { says = f.says g.stands (λ i q. omega (arith, h, given_count t g.stands, k.is, (stops t).1 (i, q))) }

pub ruleset concluding = (given_clear, conclude_circle, conclude_none, conclude_free, rules)

pub as_long : {t : List Row} {room c : ℕ} {marks : List Bool} {out out₁ : List ℕ} {r : Result Ordered Fault} → GivenOut t marks out₁ c → OrdersSound t (length out₁) out r → length out₁ ≡ room → OrdersSound t room out r
as_long g s e = rw e at s

pub ruleset sounds = (as_long, rules)

-- ---- any table

module _ {d x ws out : List ℕ} {n room : ℕ} {r : Result Ordered Fault} {z : Result (Unit {0}) Fault} (g : Admits d x ws n z) where
  pub refused_rows : {f : Fault} → z ≡ Err f → Says (wrong f.number f.place) room out r → Answers d x ws n room out r
  unfolding ordering
  refused_rows e s =
      let a = refused_as g wrong (λ v. checked v (types_ordered room (rows_shown d x ws n))) (λ p. refl) e in
      record { says = subst (λ o. Says o room out r) (sym a) s }

  pub is_sound : {u : Unit {0}} → z ≡ Ok u → OrdersSound (rows_shown d x ws n) room out r → Answers d x ws n room out r
  unfolding ordering
  is_sound e s =
      let a = admitted_as g wrong (λ v. checked v (types_ordered room (rows_shown d x ws n))) e in
      record { says = subst (λ o. Says o room out r) (sym a) s.says }

pub admits : {d x ws : List ℕ} {n : ℕ} {z : Result (Unit {0}) Fault} {u : Unit {0}} → Admits d x ws n z → z ≡ Ok u → Held ws n
admits {d} {x} {ws} {n} g e = let a = admitted g e in record { few = sound_claimed d x ws n a.2; held = sound_held d x ws n a.2 }

pub ruleset entry = (refused_rows, is_sound, admits, rules)

-- ---- the entry

pub orders_all : {d x ws out work used work' : List ℕ} {n room : ℕ} {r : Result Ordered Fault} → Answers d x ws n room out r → Wiped 0 used work' → length used ≡ length work → OrdersTypes d x ws n room work out work' r
orders_all {used = used} a z e = record { says = a.says; idle = z.is ∙ clear_all used ∙ ap (λ (k : ℕ). replicate k 0) e }

pub ruleset whole = (orders_all, rules)
