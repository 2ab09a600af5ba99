-- What the entries answer, and the text that they leave, on each of their ways.
use Prim.Native.Nat.{ℕ, ◌+◌, ◌*◌, ◌^◌, ◌≤◌, ◌<◌}
use mathlib.Core.Path.{◌≡◌, ◌∙◌}
use mathlib.Core.List.{List, []}
use borrow.Author.Rules.{rules}
use borrow.Author.Tests.{lt-ltb, le-ltb}
use native.Mathlib.Omega.{arith}
use lib.ListN.{length}
use Rattle.std.proofs.Common.{Result, Ok, Err}
use Rattle.tables.proofs.Tables.{empty_stands}
use Rattle.utf8.specs.WellFormed.{ill_formed}
use Rattle.answers.specs.Text.{wrong, Says, Finishes}
use Rattle.answers.specs.Puts.{Puts}
use Rattle.answers.proofs.Answers.{makes, told, finished}
use Rattle.faults.specs.declared.Fault.{Fault}
use Rattle.references.specs.Escape.{escape}
use Rattle.references.specs.Unescape.{unescape}
use Rattle.references.specs.Outcome.{Checks, Shows}
use Rattle.references.specs.Entries.{escaping, fitting, unescaping}
use Rattle.references.specs.Admission.{Admits, Reads}
use Rattle.references.specs.declared.ValuePlace.{ValuePlace}
use Rattle.references.specs.declared.ValueFault.{ValueFault}

-- ---- 2, then 1

module _ {v : List ℕ} where
  pub admits-long : {p : ValuePlace} → 1048576 < length v → p.0 ≡ 1048576 → Admits v (Err (record { number = 2; place = p }))
  admits-long h e = record { is = λ o. rw (lt-ltb 1048576 (length v) h, e) }

  module _ (h : length v ≤ 1048576) {at : ℕ} (e : at ≡ ill_formed v) where
    pub admits-ill : {p : ValuePlace} → at < length v → p.0 ≡ at → Admits v (Err (record { number = 1; place = p }))
    admits-ill l f = record { is = λ o. rw (le-ltb 1048576 (length v) h, ← e, lt-ltb at (length v) l, f) }

    pub admits-all : length v ≤ at → Admits v (Ok tt)
    admits-all l = record { is = (h, λ o. rw (le-ltb 1048576 (length v) h, ← e, le-ltb at (length v) l)) }

  module _ {a : Result (Unit {0}) ValueFault} (c : Admits v a) where
    pub reads-fault : {f : ValueFault} → a ≡ Err f → Reads v (Err f)
    unfolding unescaping
    reads-fault {f} e =
        let d : Admits v (Err f) = rw e at c in
        record { is = λ room. d.is (fitting (length v) room (unescape v)) }

    pub reads-check : {u : Unit {0}} {r : Result (Unit {0}) ValueFault} → a ≡ Ok u → Checks v r → Reads v r
    unfolding unescaping
    reads-check {u} {r} e k = go r k
      where
        go : (r : Result (Unit {0}) ValueFault) → Checks v r → Reads v r
        go (Ok w) k = let d : Admits v (Ok u) = rw e at c in record { is = (d.is.0, d.is.1, k.is) }
        go (Err f) k = let d : Admits v (Ok u) = rw e at c in record { is = λ room. d.is.1 _ ∙ rw k.is }

pub ruleset steps = (admits-long, admits-ill, admits-all, reads-fault, reads-check, rules)

-- ---- the entries

module _ {v : List ℕ} {a : Result (Unit {0}) ValueFault} (c : Admits v a) where
  pub escape-room : {u : Unit {0}} → a ≡ Ok u → 0 + 6 * length v < 2 ^ 62
  escape-room {u} e = let d : Admits v (Ok u) = rw e at c in omega (arith, d.is.0)

  module _ {t' : List ℕ} {room : ℕ} {r : Result ℕ Fault} where
    pub escape-fault : {f : ValueFault} → a ≡ Err f → Says (wrong f.number f.place.0) room t' r → Says (escaping v room) room t' r
    unfolding escaping
    escape-fault {f} e s = let d : Admits v (Err f) = rw e at c in rw (d.is _) s

    pub escape-done : {u : Unit {0}} {n : ℕ} {t b : List ℕ} → a ≡ Ok u → Puts (escape v) 0 t b n → length b ≡ room → Finishes n 21 n b t' r → Says (escaping v room) room t' r
    unfolding escaping
    escape-done {u} {n} {t} e q l f =
        let d : Admits v (Ok u) = rw e at c in
        let s = f.says (escape v) (q.stands [] (empty_stands 1 t)) in
        let k : n ≡ length (escape v) = q.counts ∙ omega arith in
        rw (d.is.1 _) (rw (l, k) at s)

module _ {v : List ℕ} {a : Result (Unit {0}) ValueFault} (c : Reads v a) where
  pub unescape-room : {u : Unit {0}} → a ≡ Ok u → 0 + length v < 2 ^ 62
  unescape-room {u} e = let d : Reads v (Ok u) = rw e at c in omega (arith, d.is.0)

  module _ {t' : List ℕ} {room : ℕ} {r : Result ℕ Fault} where
    pub unescape-fault : {f : ValueFault} → a ≡ Err f → Says (wrong f.number f.place.0) room t' r → Says (unescaping v room) room t' r
    unescape-fault {f} e s = let d : Reads v (Err f) = rw e at c in rw (d.is room) s

    pub unescape-done : {u : Unit {0}} {n : ℕ} {t b : List ℕ} → a ≡ Ok u → Shows v 0 t b n → length b ≡ room → Finishes n 18 (length v) b t' r → Says (unescaping v room) room t' r
    unfolding unescaping
    unescape-done {u} {n} {t} e q l f =
        let d : Reads v (Ok u) = rw e at c in
        let s = f.says d.is.2.0 ((q.puts d.is.2.0 d.is.2.1).stands [] (empty_stands 1 t)) in
        rw (d.is.1 _, d.is.2.1) (rw l at s)

pub ruleset entries = (makes, told, finished, escape-fault, escape-done, escape-room, unescape-fault, unescape-done, unescape-room, rules)
